-- Datagrams, and for each of their bytes the bits that change nothing of what is said.
use Rattle.std.specs.Prelude.{ℕ, List, [], ◌∷◌, codes}
use Rattle.example_scripts.specs.SaidDatagrams.{octets}

-- a datagram, and its ignored bits
abbrev pub ignored : List (List ℕ × List ℕ)
ignored =
    -- SEND Only, whose pad count is 3
    (octets (codes "0430ffff00000201800000644100000000000000"), octets (codes "00c0ffffff0000007f00000000ffffffffffffff"))
    -- WRITE Only with immediate
    ∷ (octets (codes "0b00ffff0000020180000064000000000000200002000003000000040000002adeadbeef00000000"), octets (codes "00c0ffffff0000007f000000000000000000000000000000000000000000000000000000ffffffff"))
    -- READ response Only
    ∷ (octets (codes "1000ffff00000101000000651f00000200000000"), octets (codes "00c0ffffff0000007f0000009f000000ffffffff"))
    -- Acknowledge: ACK
    ∷ (octets (codes "1100ffff00000101000000641f00000100000000"), octets (codes "00c0ffffff0000007f0000009f000000ffffffff"))
    -- Acknowledge: RNR NAK
    ∷ (octets (codes "1100ffff00000101000000642000000100000000"), octets (codes "00c0ffffff0000007f0000009f000000ffffffff"))
    -- Acknowledge: NAK_STOPPED
    ∷ (octets (codes "1100ffff00000101000000646500000100000000"), octets (codes "00c0ffffff0000007f00000080000000ffffffff"))
    -- ATOMIC Acknowledge
    ∷ (octets (codes "1200ffff00000101000000641f000001010203040506070800000000"), octets (codes "00c0ffffff0000007f0000009f0000000000000000000000ffffffff"))
    -- CmpSwap
    ∷ (octets (codes "1300ffff00000201800000640000000000002000020000030000000000000001000000000000000000000000"), octets (codes "00c0ffffff0000007f00000000000000000000000000000000000000000000000000000000000000ffffffff"))
    -- FetchAdd
    ∷ (octets (codes "1400ffff00000201800000640000000000002000020000030000000000000001000000000000000000000000"), octets (codes "00c0ffffff0000007f0000000000000000000000000000000000000000000000ffffffffffffffffffffffff"))
    -- RESUME
    ∷ (octets (codes "1e00ffff0000010100000000000000010a00000312b7000000000000"), octets (codes "00c0ffffff0000007fffffff00000000000000000000ffffffffffff"))
    ∷ []
