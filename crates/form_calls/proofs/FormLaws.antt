-- Samples that are appended as no octets. Assumes nothing.
use Prim.Native.Nat.{ℕ}
use mathlib.Core.Path.{◌≡◌, refl, ap, ◌∙◌}
use mathlib.Core.List.{List, []}
use mathlib.Core.Option.{Option, none}
use Rattle.std.specs.Prelude.{Result}
use Rattle.xdr.specs.Items.{word_at}
use Rattle.xdr.specs.Writes.{Afterwards}
use Rattle.sflow.specs.Grammar.{Value}
use Rattle.sflow.specs.Decode.{decode, value_in}
use Rattle.sflow.specs.Datagram.{sample_type}
use Rattle.form_writer.specs.declared.parts.WriteRefusal.{WriteRefusal}
use Rattle.writer.specs.Datagrams.{appended}

-- no octets are no sample
nothing_given : value_in sample_type [] ≡ none
unfolding value_in decode word_at
nothing_given = refl

pub nothing_appended : (limit size : ℕ) (d : List ℕ) (o : Afterwards (Result ℕ WriteRefusal)) → o ≡ appended (value_in sample_type []) limit size d
    → o ≡ appended none limit size d
nothing_appended limit size d o f = f ∙ ap (λ (x : Option (Value sample_type)). appended x limit size d) nothing_given
