use mathlib.Core.Path.{◌≡◌}
use mathlib.Core.List.{reverse}
use lib.ListN.{take}
use Rattle.rules.specs.Records.{rule_of}
use Rattle.packet.specs.Attributes.{attribute}
use Rattle.engine.specs.EngineStates.{queued}
use Rattle.engine.specs.Results.{key_of}
use Rattle.engine.proofs.key_of.Given as goal

abbrev pub invariant-loop-i : goal.invariant-loop-i
invariant-loop-i l = l.key ≡ key_of (queued (rule_of l.s) (attribute l.a) (reverse (take l.i-index l.items)))
