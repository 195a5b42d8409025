-- What reading the names of users, and a URL, finds. Assumes nothing.
use Prim.Native.Nat.{ℕ}
use mathlib.Core.Path.{◌≡◌, sym, ◌∙◌}
use mathlib.Core.List.{List}
use Rattle.std.specs.Prelude.{Ok, Err}
use Rattle.xdr.specs.Items.{word_at}
use Rattle.xdr.proofs.Reading.{word_read}
use Rattle.sflow.specs.declared.Refusal.TheVariants.{UrlDirection}
use Rattle.sflow.specs.declared.Refused.{Refused}
use Rattle.sflow.specs.Grammar.{opaque, unlimited}
use Rattle.sflow.specs.Decode.{Decoded, refused, mapped, as_read, decode}
use Rattle.sflow.specs.Datagram.{extended_user, extended_url}
use Rattle.fields.specs.declared.strings.Text.{Text}
use Rattle.fields.specs.Strings.{text_of}
use Rattle.fields.proofs.Answers.{read_told, read_refused}
use Rattle.fields.proofs.Compounds.{wrapped, then_seen, then_unseen, enumeration_in}
use Rattle.extended_data.specs.declared.Extended.{Extended}
use Rattle.extended_data.specs.declared.Extended.TheVariants.{IsUser, IsUrl}
use Rattle.extended_data.specs.ExtendedData.{user_of, url_of}
use Rattle.sflow.specs.Grammar.{one_to}
use mathlib.Core.Bool.{true}

-- a user's two names, and a URL of a direction
abbrev pub user_with : Text → Text → Extended
user_with src dst = IsUser (record { src_user = src; dst_user = dst })

abbrev pub url_with : ℕ → Text → Extended
url_with direction url = IsUrl (record { direction = direction; url = url })

-- the first name is refused
pub user_refused : (s : List ℕ) (at : ℕ) (r : Refused) → as_read (mapped (text_of at) (decode (opaque unlimited) s at)) ≡ Err r
    → mapped (user_of at) (decode extended_user s at) ≡ refused r.why r.at
user_refused s at r e = then_unseen (opaque unlimited) (opaque unlimited) s at (text_of at) (user_of at) r.why r.at (read_refused _ _ e)

-- the first name was read: what the second answers is the answer
pub user_second : (s : List ℕ) (at : ℕ) (src : Text) (next : ℕ) (d : Decoded Text)
    → as_read (mapped (text_of at) (decode (opaque unlimited) s at)) ≡ Ok (src, next)
    → mapped (text_of next) (decode (opaque unlimited) s next) ≡ d
    → mapped (user_of at) (decode extended_user s at) ≡ mapped (user_with src) d
user_second s at src next d e f =
    then_seen (opaque unlimited) (opaque unlimited) s at (text_of at) (λ t p ys. user_with t (text_of p ys)) src next (read_told _ _ _ e)
    ∙ wrapped (user_with src) (text_of next) (decode (opaque unlimited) s next) d f

-- the direction was read: what the string answers is the answer
pub url_string : (s : List ℕ) (at direction start : ℕ) (d : Decoded Text) → word_at s at ≡ Ok (direction, start) → one_to 2 direction ≡ true
    → mapped (text_of start) (decode (opaque unlimited) s start) ≡ d → mapped (url_of at) (decode extended_url s at) ≡ mapped (url_with direction) d
url_string s at direction start d e t f =
    enumeration_in UrlDirection 2 (opaque unlimited) s at (url_of at) direction start e t
    ∙ rw (sym (word_read s at direction start e).next_is)
    (wrapped (url_with direction) (text_of start) (decode (opaque unlimited) s start) d f)
