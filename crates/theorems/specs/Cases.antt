-- Document 01's starred cases: one table of the definitions under one statement. Each case is evaluated by the definition that the public function's
-- contract cites.
use Rattle.std.specs.Prelude.{ℕ, zero, suc, ◌≡◌, List, [], ◌∷◌, ◌++◌, take, get_or, replicate, Result, Ok, Err}
use Rattle.std.proofs.Math.Option.{some}
use Rattle.form_writer.specs.declared.parts.WriteRefusal.{WriteRefusal}
use Rattle.xdr.specs.Writes.{Afterwards, afterwards}
use Rattle.sflow.specs.Refusals.{refusal_number}
use Rattle.reader.specs.declared.datagram.Head.{Head}
use Rattle.reader.specs.Datagrams.{datagram_read}
use Rattle.form_writer.specs.Parts.{write_number}
use Rattle.sample_writer.specs.CounterValues.{counters_value}
use Rattle.writer.specs.Datagrams.{started, appended}
use Rattle.rules.specs.Checks.{CheckAnswer, accepted, check_number, check}
use Rattle.engine.specs.Results.{EngineAnswer, engine_number, rule_named, rules_in, key_in, zero_key, engine_of}
use Rattle.ledger.specs.declared.FlowEntry.{FlowEntry}
use Rattle.ledger.specs.declared.Row.{Row}
use Rattle.ledger.specs.Ledger.{TableEntered, free_row, entered}
use Rattle.sflow.specs.declared.Refused.{Refused}
use Rattle.theorems.specs.Inputs.{
  no_samples,
  one_sample,
  counter_sample,
  agent,
  ethernet_counters,
  rule_record,
  subroutine,
  flow_sample,
  sample_entry,
}

pub data Case : Type 0 where
  -- these octets are refused by the reader with a number at an offset
  refuses : List ℕ → ℕ → ℕ → Case
  -- these octets are accepted with a head
  accepts : List ℕ → Head → Case
  -- with a limit of 1,400, so many Ethernet counter samples leave the first number (0 or a refusal's) and so many octets
  appends : ℕ → ℕ → ℕ → Case
  -- the check accepts this rule set, and on the flow sample the engine gives an answer's number and so many rules come to; the key is zero
  runs : List ℕ → ℕ → ℕ → Case
  -- check and engine refuse this rule set with a number at a rule
  breaks : List ℕ → ℕ → ℕ → Case
  -- two samples of a new source are entered, and leave a pool total and a lost total
  enters : FlowEntry → FlowEntry → ℕ → ℕ → Case

-- ---- 1 to 6 and 8: the reader

abbrev Refuses : Result Head Refused → ℕ → ℕ → Type 0
Refuses (Ok h) number place = ⊥
Refuses (Err r) number place = (refusal_number r.why ≡ number) × (r.at ≡ place)

-- ---- 11: the writer

-- behind some appends: the number of the last answer, the length of the datagram, the buffer
pub record Appended : Type 0 where
  pub number : ℕ
  pub size : ℕ
  pub buffer : List ℕ

-- behind an answer: the new length, or the refusal with what was there
abbrev behind : ℕ → Afterwards (Result ℕ WriteRefusal) → Appended
behind size (afterwards (Ok n) d) = record { number = 0; size = n; buffer = d }
behind size (afterwards (Err why) d) = record { number = write_number (Err why); size = size; buffer = d }

-- a datagram of an IPv4 agent with so many Ethernet counter samples appended, in a buffer of 1,400 octets
abbrev after_appends : ℕ → Appended
after_appends zero = behind 0 (started 1400 agent 1 1000 (replicate 1400 0))
after_appends (suc n) =
    behind (after_appends n).size
    (appended (some (counters_value 5 16777316 20 2 ethernet_counters)) 1400 (after_appends n).size (after_appends n).buffer)

-- ---- 12 to 16: check and engine

abbrev Breaks : CheckAnswer → ℕ → ℕ → Type 0
Breaks (Ok x) number rule = ⊥
Breaks (Err r) number rule = (check_number r.why ≡ number) × (r.rule ≡ rule)

-- the answer's number, the rule named, the rules come to, and a key of zeros
abbrev Gives : EngineAnswer → ℕ → ℕ → ℕ → Type 0
Gives a number rule rules = (engine_number a ≡ number) × (rule_named a ≡ rule) × (rules_in a ≡ rules) × (key_in a ≡ zero_key)

-- ---- 17: the ledger

-- two samples entered in an empty table, one behind the other
abbrev first : FlowEntry → TableEntered
first x = entered (replicate 64 free_row) x

abbrev second : FlowEntry → FlowEntry → TableEntered
second x y = entered (first x).rows y

abbrev row_after : FlowEntry → FlowEntry → Row
row_after x y = get_or (second x y).rows 0 free_row

-- ---- the table

abbrev pub Holds : Case → Type 0
Holds (refuses s number place) = Refuses (datagram_read s) number place
Holds (accepts s h) = datagram_read s ≡ Ok h
Holds (appends n number size) = ((after_appends n).number ≡ number) × ((after_appends n).size ≡ size)
Holds (runs s number rules) = (check s ≡ accepted) × Gives (engine_of s flow_sample) number 0 rules
Holds (breaks s number rule) = Breaks (check s) number rule × Gives (engine_of s flow_sample) number rule 0
Holds (enters x y pool lost) =
    ((first x).answer ≡ Ok tt) × ((second x y).answer ≡ Ok tt) × ((row_after x y).pool_total ≡ pool) × ((row_after x y).lost_total ≡ lost)

abbrev pub AllHold : List Case → Type 0
AllHold [] = Unit {0}
AllHold (c ∷ cs) = Holds c × AllHold cs

abbrev pub cases : List Case
cases =
    -- 1: empty
    refuses [] 1 0
    -- 2: word 5
    ∷ refuses (0 ∷ 0 ∷ 0 ∷ 5 ∷ []) 2 0
    -- 3: agent 10.0.0.7, sequence 1, uptime 1000, no samples
    ∷ accepts no_samples (record { agent = agent; sequence_number = 1; uptime = 1000; samples = record { at = 24; count = 0 } })
    -- 4: its first 23
    ∷ refuses (take 23 no_samples) 1 20
    -- 5: one octet 00 more
    ∷ refuses (no_samples ++ (0 ∷ [])) 13 24
    -- 6: count 1, nothing after
    ∷ refuses one_sample 1 24
    -- 8: case 7's datagram with counters version 8
    ∷ refuses (one_sample ++ counter_sample 8) 11 40
    -- 11: eight Ethernet counter samples give 1,304; the ninth is 20
    ∷ appends 8 0 1304
    ∷ appends 9 20 1304
    -- 12: Ignore
    ∷ runs (rule_record 0 1 0 0 0 0 0) 1 1
    -- 13: Goto 1
    ∷ breaks (rule_record 0 10 0 1 0 0 0) 37 1
    -- 14: SourceInterface & 0 = 1: Count; the same with Null
    ∷ runs (rule_record 4 3 1 0 0 0 0) 2 1
    ∷ runs (rule_record 0 3 1 0 0 0 0) 3 1
    -- 15: Gosub 3; Ignore; Return 1
    ∷ runs (subroutine 1) 1 3
    -- 16: with Return 3
    ∷ breaks (subroutine 3) 37 3
    -- 17: sequences 7, 9, pools 4294967290, 10
    ∷ enters (sample_entry 7 4294967290) (sample_entry 9 10) 16 1
    ∷ []
