-- A step of a world may be asked for what a lawful line does.
use Rattle.rdma_types.specs.declared.verbs.Verb.{Verb}
use Rattle.rdma_types.specs.declared.verbs.Verb.TheVariants as verb
use Rattle.script_lang.specs.declared.lines.Line.{Line}
use Rattle.script_lang.specs.declared.lines.Line.TheVariants as line
use Rattle.script_lang.specs.Ranges.{IsLawfulLine, IsLawfulVerb}
use Rattle.law_headline.specs.Does.{MayBeAskedOf, event_happens, event_of, happening_of}

verb_asked : (v : Verb) → IsLawfulVerb v → MayBeAskedOf (event_happens (event_of v))
verb_asked (verb.Context name made) is = tt
verb_asked (verb.Connect one two terms) is = is
verb_asked (verb.MakeDomain o) is = (tt, tt)
verb_asked (verb.MakeRegion o domain base size rights) is = (tt, (is.0, is.1.0, is.1.1, is.2))
verb_asked (verb.MakeCq o capacity) is = (tt, is)
verb_asked (verb.MakeQp o domain send_cq recv_cq send_depth recv_depth) is = (tt, is)
verb_asked (verb.DropRegion o) is = (tt, tt)
verb_asked (verb.Store o at bytes) is = (tt, tt)
verb_asked (verb.Load o at size) is = (tt, tt)
verb_asked (verb.PostSend o request) is = (tt, is)
verb_asked (verb.PostRecv o receive) is = (tt, tt)
verb_asked (verb.Poll o max) is = (tt, tt)

pub line_asked : (l : Line) → IsLawfulLine l → MayBeAskedOf (happening_of l)
line_asked line.Blank is = tt
line_asked (line.Verb v) is = verb_asked v is
line_asked (line.Device id address) is = is
line_asked (line.Context name device) is = tt
line_asked (line.Go o) is = (tt, tt)
line_asked (line.Deliver k) is = tt
line_asked (line.Lose k) is = tt
line_asked (line.Wire k) is = tt
line_asked (line.Expire o) is = (tt, tt)
line_asked (line.Rnr o) is = (tt, tt)
line_asked (line.Stop name) is = tt
line_asked (line.Restore name device) is = tt
line_asked (line.Release name device) is = tt
line_asked (line.Dump name) is = tt
line_asked line.Settle is = tt
