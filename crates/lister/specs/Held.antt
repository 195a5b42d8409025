-- What the program does with the octets that it holds (document 01, "Listing a capture").
use Rattle.std.specs.Prelude.{ℕ, ◌≤◌, ◌≡◌, List, [], ◌∷◌, ◌++◌, length, drop, Option, IfSome, ⊤, Err}
use Rattle.std.specs.Io.KnownBytes.{Appends}
use Rattle.listing.specs.declared.State.{State}
use Rattle.listing.specs.declared.FrameFault.TheVariants.{Short, Wrong}
use Rattle.listing.specs.Captures.{frame_of}
use Rattle.listing.specs.Texts.{nothing_listed, text_from, capture_of, texts_of, behind_all}
use Rattle.lister.specs.declared.Progress.{Progress}
use Rattle.lister.specs.declared.Rest.{Rest}
use Rattle.lister.specs.declared.Rest.TheVariants.{Unfinished, Bad, OutputFailed}

-- the room that takes the lines of any record
abbrev pub room_for_any : ℕ
room_for_any = 222796

-- what stands behind the records listed: no whole record, or a bad one; where the output failed, it is not said
abbrev pub LeftAs : Rest → List ℕ → Type 0
LeftAs Unfinished s = frame_of s ≡ Err Short
LeftAs Bad s = frame_of s ≡ Err Wrong
LeftAs OutputFailed s = ⊤

-- octets s behind a state are listed up to an offset: some lines, and then the text of what is left behind the new state, are the text of all; where every line was
-- taken, no whole record is left, and what is left is told to be bad exactly where it begins with a wrong mark or length
pub record Listed (begin : State) (s : List ℕ) (p : Progress) : Type 0 where
  pub inside : p.listed ≤ length s
  pub lines : List ℕ
  pub text_is : text_from begin s ≡ lines ++ text_from p.state (drop p.listed s)
  pub left : LeftAs p.rest (drop p.listed s)

-- each datagram is short enough for the length of its record
abbrev pub FitRecords : List (List ℕ) → Type 0
FitRecords [] = ⊤
FitRecords (x ∷ xs) = (length x ≤ 65507) × FitRecords xs

-- what is listed of octets s behind a state: datagrams in their records, counted; and unless the output failed, their lines and nothing else are what the writer took
pub record Lists (begin : State) (s : List ℕ) (p : Progress) (before after : Option (List ℕ)) : Type 0 where
  pub datagrams : List (List ℕ)
  pub fit : FitRecords datagrams
  pub records_are : s ≡ capture_of datagrams ++ drop p.listed s
  pub state_is : p.state ≡ behind_all begin datagrams
  pub lines_are : (p.rest ≡ OutputFailed → ⊥) → Appends before after (texts_of begin datagrams)

-- the longest record: four octets, and the longest datagram
abbrev pub longest_record : ℕ
longest_record = 65511

-- all that an input held is listed: where its octets are known, the writer took the text of the capture that they are
abbrev pub ListsAll : Option (List ℕ) → Option (List ℕ) → Option (List ℕ) → Type 0
ListsAll input before after = IfSome input (λ s. Appends before after (text_from nothing_listed s))
