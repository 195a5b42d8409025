use Rattle.std.proofs.Common.{ℕ, List, replicate, ap, ◌∙◌}
use Rattle.std.proofs.lemmas.List.{drop-replicate}
use Rattle.numbers.specs.Reports.{filled_behind}
use Rattle.numbers.proofs.Reports.{part_is}
use Rattle.counter_calls.proofs.put_zeros.Goals as goal

pub returns : goal.returns
returns c =
    let n = c.args.n in
    c.fill_behind.ensures
    ∙ ap (λ (xs : List ℕ). filled_behind n xs c.args.out.now) (part_is n (replicate 38 0) ∙ drop-replicate n 38 0)
