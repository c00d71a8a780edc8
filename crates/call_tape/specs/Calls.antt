-- The calls as tags and contents of fields.
--   four a b c d      the number of four bytes, big end first; pair a b, of two
--   number_at xs i    the number in the four bytes from the place i of xs
--   stream_at xs i    the stream's label in the same bytes: port, channel, session
--   opening_of xs     the opening in twelve bytes: label, first number, length
--   bytes_of n, label_bytes l   the four bytes of a number, and of a label
--   tag_of c          the tag of a field that makes the call c
--   contents_of c     its contents
--   sized k xs a      a, read from contents xs that must have k bytes
--   decoded t xs      the call of a field of tag t and contents xs, or why it is none
--   Small c           each number of c fits the bytes that a field has for it
--   Decodes t xs o    o is what such a field means, by the calls' tags and contents alone
--   OwnField          the field of a call makes that call
-- Assumes nothing.
use Rattle.std.specs.Prelude.{◌≡◌, ℕ, ◌+◌, ◌*◌, ◌/◌, ◌%◌, ◌<◌, cond, List, [], ◌∷◌, ◌++◌, length, slice_index, Ok, Err, Result, ◌==◌, ◌≢◌}
use Rattle.refusal.specs.declared.Refusal.{Refusal}
use Rattle.refusal.specs.declared.Refusal.TheVariants.{UnknownTag, WrongFieldLength}
use Rattle.label.specs.declared.stream.StreamLabel.{StreamLabel}
use Rattle.call_tape.specs.declared.calls.Opening.{Opening}
use Rattle.call_tape.specs.declared.calls.Call.{Call}
use Rattle.call_tape.specs.declared.calls.Call.TheVariants.{Write, Drop, Spoil, Read, Trim, Open, Append, Close, Tally}

abbrev pub four : ℕ → ℕ → ℕ → ℕ → ℕ
four a b c d = a * 16777216 + b * 65536 + c * 256 + d

abbrev pub pair : ℕ → ℕ → ℕ
pair a b = a * 256 + b

abbrev pub number_at : List ℕ → ℕ → ℕ
number_at xs i = four (slice_index xs i) (slice_index xs (i + 1)) (slice_index xs (i + 2)) (slice_index xs (i + 3))

abbrev pub stream_at : List ℕ → ℕ → StreamLabel
stream_at xs i = record { port = slice_index xs i; channel = pair (slice_index xs (i + 1)) (slice_index xs (i + 2)); session = slice_index xs (i + 3) }

abbrev pub opening_of : List ℕ → Opening
opening_of xs = record { stream = stream_at xs 0; first = number_at xs 4; length = number_at xs 8 }

abbrev pub bytes_of : ℕ → List ℕ
bytes_of n = (n / 16777216) % 256 ∷ (n / 65536) % 256 ∷ (n / 256) % 256 ∷ n % 256 ∷ []

abbrev pub label_bytes : StreamLabel → List ℕ
label_bytes l = l.port ∷ (l.channel / 256) % 256 ∷ l.channel % 256 ∷ l.session ∷ []

abbrev pub tag_of : Call → ℕ
tag_of (Write n) = 1
tag_of (Drop n) = 2
tag_of (Spoil n) = 3
tag_of (Read n) = 4
tag_of (Trim n) = 5
tag_of (Open o) = 6
tag_of (Append l) = 7
tag_of (Close l) = 8
tag_of Tally = 9

abbrev pub contents_of : Call → List ℕ
contents_of (Write n) = bytes_of n
contents_of (Drop n) = bytes_of n
contents_of (Spoil n) = bytes_of n
contents_of (Read n) = bytes_of n
contents_of (Trim n) = bytes_of n
contents_of (Open o) = label_bytes o.stream ++ (bytes_of o.first ++ bytes_of o.length)
contents_of (Append l) = label_bytes l
contents_of (Close l) = label_bytes l
contents_of Tally = []

abbrev pub sized : {A : Type 0} → ℕ → List ℕ → A → Result A Refusal
sized k xs a = cond (length xs == k) (Ok a) (Err WrongFieldLength)

abbrev pub decoded : ℕ → List ℕ → Result Call Refusal
decoded t xs =
    cond (t == 1) (sized 4 xs (Write (number_at xs 0)))
    (cond (t == 2) (sized 4 xs (Drop (number_at xs 0)))
    (cond (t == 3) (sized 4 xs (Spoil (number_at xs 0)))
    (cond (t == 4) (sized 4 xs (Read (number_at xs 0)))
    (cond (t == 5) (sized 4 xs (Trim (number_at xs 0)))
    (cond (t == 6) (sized 12 xs (Open (opening_of xs)))
    (cond (t == 7) (sized 4 xs (Append (stream_at xs 0)))
    (cond (t == 8) (sized 4 xs (Close (stream_at xs 0)))
    (cond (t == 9) (sized 0 xs Tally) (Err UnknownTag)))))))))

abbrev pub SmallLabel : StreamLabel → Type 0
SmallLabel l = (l.port < 256) × (l.channel < 65536) × (l.session < 256)

abbrev pub Small : Call → Type 0
Small (Write n) = n < 4294967296
Small (Drop n) = n < 4294967296
Small (Spoil n) = n < 4294967296
Small (Read n) = n < 4294967296
Small (Trim n) = n < 4294967296
Small (Open o) = SmallLabel o.stream × (o.first < 4294967296) × (o.length < 4294967296)
Small (Append l) = SmallLabel l
Small (Close l) = SmallLabel l
Small Tally = Unit {0}

-- the field of a call; a tag that no call has; a call's tag beside contents of another length than that call's
pub data Decodes (t : ℕ) (xs : List ℕ) : Result Call Refusal → Type 0 where
  call : (c : Call) → Small c → t ≡ tag_of c → xs ≡ contents_of c → Decodes t xs (Ok c)
  unknown : ((c : Call) → t ≢ tag_of c) → Decodes t xs (Err UnknownTag)
  wrong : (c : Call) → t ≡ tag_of c → (length xs ≢ length (contents_of c)) → Decodes t xs (Err WrongFieldLength)

abbrev pub OwnField : Type 0
OwnField = (c : Call) → Small c → decoded (tag_of c) (contents_of c) ≡ Ok c
