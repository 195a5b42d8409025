-- Rule records in octets (document 01, "Rule sets").
use Rattle.std.specs.Prelude.{ℕ, ◌*◌, ◌-◌, ◌/◌, List, [], ◌∷◌, Bool, cond, ◌&&◌, length, get_or, leb}
use Rattle.xdr.specs.Items.{numbers_at}
use Rattle.rules.specs.declared.Rule.{Rule}
use Rattle.rules.specs.declared.Declared.{Declared}
use Rattle.rules.specs.declared.RuleRecord.{RuleRecord}

-- the widths of mark, attribute, opcode, mask, value, parameter, home, depth, held
abbrev pub record_widths : List ℕ
record_widths = 2 ∷ 1 ∷ 1 ∷ 4 ∷ 4 ∷ 1 ∷ 1 ∷ 1 ∷ 1 ∷ []

-- what the machine is fed of a record, from its numbers
abbrev pub rule_in : List ℕ → Rule
rule_in vs = record { attribute = get_or vs 1 0; opcode = get_or vs 2 0; mask = get_or vs 3 0; value = get_or vs 4 0; parameter = get_or vs 5 0 }

-- what it declares
abbrev pub declared_in : List ℕ → Declared
declared_in vs = record { home = get_or vs 6 0; depth = get_or vs 7 0; held = get_or vs 8 0 }

abbrev pub record_in : List ℕ → RuleRecord
record_in vs = record { mark = get_or vs 0 0; rule = rule_in vs; declared = declared_in vs }

-- what stands for a record that is not there
abbrev pub no_record : RuleRecord
no_record = record_in []

-- how many rules there are in octets
abbrev pub rule_count : List ℕ → ℕ
rule_count s = length s / 16

-- of n rules, numbered from 1, there is a rule i
abbrev pub has_rule : ℕ → ℕ → Bool
has_rule n i = leb 1 i && leb i n

-- record i of a rule set
unfoldable pub record_of : List ℕ → ℕ → RuleRecord
record_of s i = cond (has_rule (rule_count s) i) (record_in (numbers_at s (16 * (i - 1)) record_widths)) no_record

-- what the machine is fed of it, and what it declares
abbrev pub rule_of : List ℕ → ℕ → Rule
rule_of s i = (record_of s i).rule

abbrev pub declared_of : List ℕ → ℕ → Declared
declared_of s i = (record_of s i).declared
