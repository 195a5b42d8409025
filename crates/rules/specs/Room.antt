-- What an action takes of the engine's fixed room, 4 calls and 16 items: the engine's private functions and the proofs use it. The machine has no limits.
use Rattle.std.specs.Prelude.{ℕ, ◌≤◌, ◌<◌}
use Rattle.rules.specs.declared.Action.{Action}
use Rattle.rules.specs.declared.Action.TheVariants.{Unknown, Ignore, NoMatch, Count, CountPkt, Return, Gosub, Goto, PushRule, PushPkt, PopTo}

-- with d calls open and q items queued
abbrev pub Room : Action → ℕ → ℕ → Type 0
Room Unknown d q = ⊥
Room Ignore d q = Unit {0}
Room NoMatch d q = Unit {0}
Room Count d q = q < 16
Room CountPkt d q = q < 16
Room Return d q = 1 ≤ d
Room (Gosub t) d q = d < 4
Room (Goto t) d q = Unit {0}
Room (PushRule t) d q = q < 16
Room (PushPkt t) d q = q < 16
Room (PopTo t) d q = 1 ≤ q
