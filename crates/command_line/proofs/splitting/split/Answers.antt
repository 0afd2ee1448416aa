use Rattle.std.proofs.Common.{◌≡◌, ◌∙◌, true, List, map, ap, refl}
use Rattle.std.specs.String.{string_bytes}
use Rattle.clap.specs.Words.{App, Text, app_of, is_simple, subcommand_of, takes}
use Rattle.command_line.specs.Splitting.{spelled_in, splitter_app}
use Rattle.command_line.proofs.Lawful.{splits}
use Rattle.command_line.proofs.splitting.split.Goals as goal
use Rattle.command_line.proofs.splitting.split.Goals.{in-OutOfMemory, in_default}

pub prove-unreachable-requires : goal.prove-unreachable-requires
prove-unreachable-requires c =
    let words : List Text = map string_bytes c.args.words.now in
    let taken : takes (app_of c.in_ok-forms.field-0) words ≡ true = ap (λ (a : App). takes a words) c.in_ok-forms.ensures ∙ (splits words c.requires).taken in
    let short = c.kind.ensures ∙ c.in-Err.ensures.passes taken in
    elim c.match-matches.branch [ in-OutOfMemory w ↦ cc (c.if-prove.true, w.matches-is) | in_default w ↦ w.in_default.not-OutOfMemory short ]

simple : is_simple splitter_app ≡ true
simple = refl

pub returns-in-Ok : goal.returns-in-Ok
returns-in-Ok c =
    let words : List Text = map string_bytes c.args.words.now in
    ap spelled_in ((c.in-Ok.ensures.matches (ap is_simple c.in_ok-forms.ensures ∙ simple)).1 ∙ ap (λ (a : App). subcommand_of a words) c.in_ok-forms.ensures)
    ∙ (splits words c.requires).says
