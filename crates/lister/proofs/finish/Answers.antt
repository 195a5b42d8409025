use Rattle.std.proofs.Common.{rules, arith, sym, ◌∙◌, ap, subst}
use Rattle.std.specs.Io.KnownBytes.{Appends}
use Rattle.std.proofs.lemmas.Option.{IfSome_then}
use Rattle.xdr.specs.Writes.{afterwards}
use Rattle.lister.proofs.Parts.{line_inside, line_front}
use Rattle.lister.proofs.finish.Goals as goal

pub flush-requires : goal.flush-requires
flush-requires g c =
    let h = line_inside c.args.output.now c.end_text.new.d _ _ _ (ap (λ x. afterwards x c.end_text.new.d) (sym c.in_ok-n.was) ∙ c.end_text.ensures) (search rules) in
    omega arith

pub returns : goal.returns
returns g c = IfSome_then c.flush.result c.flush.ensures λ _ written.
    let h = line_front c.args.output.now c.end_text.new.d _ _ _ (ap (λ x. afterwards x c.end_text.new.d) (sym c.in_ok-n.was) ∙ c.end_text.ensures) in
    subst (Appends _ _) h written
