use mathlib.Core.Path.{sym, ◌∙◌, ap}
use mathlib.Core.List.{reverse}
use lib.ListN.{take}
use Rattle.rules.specs.Records.{rule_of}
use Rattle.packet.specs.Attributes.{attribute}
use Rattle.engine.specs.declared.FlowKey.{FlowKey}
use Rattle.engine.specs.EngineStates.{item_of, queued}
use Rattle.engine.specs.Results.{put, key_of}
use Rattle.engine.proofs.Keys.{key_more, zeros, zero_key_is}
use Rattle.engine.proofs.key_of.Goals as goal

pub loop-i-init : goal.loop-i-init
unfolding key_of
loop-i-init c =
    let masks = c.default-key.ensures.0 in
    let values = c.default-key.ensures.1 in
    zero_key_is _ (zeros 23 _ masks.long (λ i l. masks.at i 0 l)) (zeros 23 _ values.long (λ i l. values.at i 0 l))

pub loop-i-preserved : goal.loop-i-preserved
loop-i-preserved c =
    c.put.ensures
    ∙ ap (λ (k : FlowKey). put k c.item_of.result) c.loop-i.invariant
    ∙ ap (put (key_of (queued (rule_of c.args.s.now) (attribute c.args.a) (reverse (take c.loop-i.i-index c.oldest_first-items.result.now))))) c.item_of.ensures
    ∙ sym (key_more (item_of (rule_of c.args.s.now) (attribute c.args.a)) c.oldest_first-items.result.now c.loop-i.i-index c.loop-i-test.true)
