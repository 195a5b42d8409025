use Rattle.form_writer.proofs.Stores.{Room, Putting}
use Rattle.form_writer.proofs.parts.write_parts.Given as goal

abbrev pub invariant-loop-part : goal.invariant-loop-part
invariant-loop-part l = Room l.d l.parts l.part-index l.room

abbrev pub invariant-loop-part-2 : goal.invariant-loop-part-2
invariant-loop-part-2 l = Putting l.initial.d l.parts l.d l.part-index l.at
