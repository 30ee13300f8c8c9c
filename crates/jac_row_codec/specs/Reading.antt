-- What the contracts of readers of single fields say. Only private functions cite it.
use Rattle.std.specs.Prelude.{◌≡◌, ℕ, ◌<◌, ◌≤◌, ◌-◌, ◌/◌, ◌%◌, ◌^◌, Bool, true, if◌then◌else◌, nat_lt, nat_le, ◌||◌, ◌&&◌, ◌==◌, ◌↔◌, zero, suc, ⊤, List, [], ◌∷◌, ◌++◌, length, Option, Some, None}
use Rattle.std.specs.Int.{w64, w128, to_be_bytes, cast_unsigned, bytes_high_first}
use Rattle.std.specs.Str.{IsUtf8}
use Rattle.jac_value.specs.Ids.{is_id_of}
use Rattle.jac_value.specs.Values.{has_kind}
use Rattle.jac_value.specs.declared.value.Kind.{Kind}
use Rattle.jac_value.specs.declared.value.Kind.TheVariants as kinds
use Rattle.jac_value.specs.declared.value.Value.{Value}
use Rattle.jac_value.specs.declared.value.Value.TheVariants as values
use Rattle.jac_row_codec.specs.Spelling.{IsCell, cell_bytes, cells_bytes, sign_byte, AreCells, SpellsCells, IsGuard, SpellsGuard, guard_bytes}
use Rattle.jac_row_codec.specs.Faults.{GoesOn}
use Rattle.jac_row_codec.specs.declared.stop.Stop.{Stop}
use Rattle.jac_row_codec.specs.declared.text.Unread.{Unread}
use Rattle.jac_row_codec.specs.declared.stop.Stop.TheVariants as stops

-- The bytes are no right spelling. Without the last `left` of them they are the longest beginning
-- that can go on to one.
pub record Stops (Spells : List ℕ → Type 0) (bytes : List ℕ) (left : ℕ) : Type 0 where
  pub front : List ℕ
  pub rest : List ℕ
  pub split : bytes ≡ front ++ rest
  pub long : length rest ≡ left
  pub goes : GoesOn Spells front
  pub wrong : ¬ (Spells bytes)
  pub no_longer : (b : ℕ) (more : List ℕ) → rest ≡ b ∷ more → ¬ (GoesOn Spells (front ++ b ∷ []))

-- Why a reader stopped.
abbrev pub StopsBy : (List ℕ → Type 0) → List ℕ → Stop → Type 0
StopsBy Spells bytes (stops.Left left) = Stops Spells bytes left
StopsBy Spells bytes stops.Memory = ⊤

-- The reader didn't run out of memory.
abbrev pub IsStopOfBytes : Stop → Type 0
IsStopOfBytes (stops.Left left) = ⊤
IsStopOfBytes stops.Memory = ⊥

-- The bytes begin with the spelling of such a thing.
pub record Led {X : Type 0} (Is : X → Type 0) (spell : X → List ℕ) (bytes : List ℕ) : Type 0 where
  pub thing : X
  pub is : Is thing
  pub after : List ℕ
  pub split : bytes ≡ spell thing ++ after

-- A number of the range. Without its last `left` bytes it is `value`.
pub record IsBehind (low high left value number : ℕ) : Type 0 where
  pub from : low ≤ number
  pub to : number ≤ high
  pub read : number / 256 ^ left ≡ value

-- A number of the range.
pub record IsBetween (low high number : ℕ) : Type 0 where
  pub from : low ≤ number
  pub to : number ≤ high

abbrev pub Numbers : ℕ → ℕ → ℕ → List ℕ → Type 0
Numbers low high width = Led (IsBetween low high) (bytes_high_first width)

abbrev pub NumbersBehind : ℕ → ℕ → ℕ → ℕ → List ℕ → Type 0
NumbersBehind low high left value = Led (IsBehind low high left value) (bytes_high_first left)

-- A part of the number has been read. If the bytes from here on spell a number or stop, so do all
-- bytes.
pub record Halfway (low high width : ℕ) (bytes : List ℕ) (left value : ℕ) (rest : List ℕ) : Type 0
  where
    pub from : low / 256 ^ left ≤ value
    pub to : value ≤ high / 256 ^ left
    pub spelled : (number : ℕ) (after : List ℕ) → number / 256 ^ left ≡ value
        → rest ≡ bytes_high_first left number ++ after → bytes ≡ bytes_high_first width number
        ++ after
    pub stops : (n : ℕ) → Stops (NumbersBehind low high left value) rest n
        → Stops (Numbers low high width) bytes n

-- The bytes begin with the number.
pub record IsNumber (low high width : ℕ) (bytes : List ℕ) (number : ℕ) (after : List ℕ) : Type 0
  where
    pub between : IsBetween low high number
    pub split : bytes ≡ bytes_high_first width number ++ after

-- A cell of the kind.
pub record IsOf (kind : Kind) (cell : Value) : Type 0 where
  pub fit : has_kind kind cell ≡ true
  pub valid : IsCell cell

abbrev pub CellsOf : Kind → List ℕ → Type 0
CellsOf kind = Led (IsOf kind) cell_bytes

-- The bytes begin with the cell.
pub record IsCellOf (kind : Kind) (bytes : List ℕ) (cell : Value) (after : List ℕ) : Type 0 where
  pub of_kind : IsOf kind cell
  pub split : bytes ≡ cell_bytes cell ++ after

-- The tag of a cell of the kind, and the bytes of a cell after its tag.
abbrev pub tag_of : Kind → ℕ
tag_of kinds.Int = 1
tag_of kinds.Text = 2
tag_of kinds.Bool = 3
tag_of (kinds.Ref m) = 4

abbrev pub text_body : Value → List ℕ
text_body (values.Int i) = to_be_bytes w64 (cast_unsigned w64 i)
text_body (values.Text t) = to_be_bytes w64 (length t) ++ t
text_body (values.Bool b) = sign_byte b ∷ []
text_body (values.Ref None) = 0 ∷ []
text_body (values.Ref (Some id)) = 1 ∷ to_be_bytes w128 id

abbrev pub BodiesOf : Kind → List ℕ → Type 0
BodiesOf kind = Led (IsOf kind) text_body

pub record IsBodyOf (kind : Kind) (bytes : List ℕ) (cell : Value) (after : List ℕ) : Type 0 where
  pub of_kind : IsOf kind cell
  pub split : bytes ≡ text_body cell ++ after

-- The byte of a truth value.
abbrev pub IsTruth : Bool → Type 0
IsTruth b = ⊤

abbrev pub sign_bytes : Bool → List ℕ
sign_bytes b = sign_byte b ∷ []

abbrev pub Signs : List ℕ → Type 0
Signs = Led IsTruth sign_bytes

-- The greatest byte before a reference. No model from 64 on has ids.
abbrev pub most_sign : ℕ → ℕ
most_sign m = if nat_lt m 64 then 1 else 0

-- An id of the model.
abbrev pub IsOfModel : ℕ → ℕ → Type 0
IsOfModel model id = is_id_of id model ≡ true

abbrev pub IdsOf : ℕ → List ℕ → Type 0
IdsOf model = Led (IsOfModel model) (bytes_high_first 16)

-- A number with the property `Is`. Without its last `left` bytes it is `value`.
pub record IsBehindOf (Is : ℕ → Type 0) (left value number : ℕ) : Type 0 where
  pub is : Is number
  pub read : number / 256 ^ left ≡ value

abbrev pub BehindOf : (ℕ → Type 0) → ℕ → ℕ → List ℕ → Type 0
BehindOf Is left value = Led (IsBehindOf Is left value) (bytes_high_first left)

-- The number in the first eight bytes of an id is 0 if the id is narrow, and from 1 to 2^40 - 1 if
-- it is wide.
abbrev pub most_top : ℕ
most_top = 0xFF_FFFF_FFFF

-- The greatest number in the next six bytes.
abbrev pub most_middle : ℕ → ℕ
most_middle top = if top == 0 then 0xF_FFFF_FFFF else 0xFFFF_FFFF_FFFF

-- The least byte after these fourteen. An id is at least 4096, and so is the second part of a wide
-- id.
abbrev pub least_next : ℕ → ℕ
least_next front = if front % 2 ^ 36 == 0 then 16 else 0

-- The last byte of an id of the model.
abbrev pub IsLastByte : ℕ → ℕ → Type 0
IsLastByte model b = (b < 256) × (b % 64 ≡ model)

abbrev pub one_byte : ℕ → List ℕ
one_byte b = b ∷ []

abbrev pub LastsOf : ℕ → List ℕ → Type 0
LastsOf model = Led (IsLastByte model) one_byte

-- A text of so many bytes.
abbrev pub IsText : ℕ → List ℕ → Type 0
IsText long text = IsUtf8 text × (length text ≡ long)

abbrev pub itself : List ℕ → List ℕ
itself text = text

abbrev pub TextsOf : ℕ → List ℕ → Type 0
TextsOf long = Led (IsText long) itself

-- The bytes begin with a text of this length.
pub record IsTextBefore (long : ℕ) (bytes after : List ℕ) : Type 0 where
  pub text : List ℕ
  pub is : IsText long text
  pub split : bytes ≡ text ++ after

-- A byte that begins a character (RFC 3629).
abbrev pub is_lead : ℕ → Bool
is_lead b = nat_lt b 0x80 || (nat_le 0xC2 b && nat_le b 0xF4)

-- The bounds of the second byte of a character.
abbrev pub least_second : ℕ → ℕ
least_second b = if b == 0xE0 then 0xA0 else (if b == 0xF0 then 0x90 else 0x80)

abbrev pub most_second : ℕ → ℕ
most_second b = if b == 0xED then 0x9F else (if b == 0xF4 then 0x8F else 0xBF)

-- The text begins with so many bytes that end a character. The first of them is within the bounds.
-- Then a text follows.
abbrev pub EndsCharacter : ℕ → ℕ → ℕ → List ℕ → Type 0
EndsCharacter zero low high text = IsUtf8 text
EndsCharacter (suc n) low high [] = ⊥
EndsCharacter (suc n) low high (b ∷ bs) = IsBetween low high b × EndsCharacter n 0x80 0xBF bs

-- The unread part of a text.
abbrev pub IsTextLeft : Unread → List ℕ → Type 0
IsTextLeft u text = EndsCharacter u.inside u.low u.high text × (length text ≡ u.left)

abbrev pub LeftOf : Unread → List ℕ → Type 0
LeftOf u = Led (IsTextLeft u) itself

-- The unread part can be the end of a text.
pub record CanEnd (u : Unread) : Type 0 where
  pub room : u.inside ≤ u.left
  pub bounds : u.low ≤ u.high

-- What is left after a byte.
pub record IsBehindByte (u : Unread) (b : ℕ) (next : Unread) : Type 0 where
  pub same : (text : List ℕ) → IsTextLeft u (b ∷ text) ↔ IsTextLeft next text
  pub can_end : CanEnd next
  pub fewer : next.left < u.left

-- A part of the text has been read.
pub record TextSoFar (long : ℕ) (bytes : List ℕ) (u : Unread) (rest : List ℕ) : Type 0 where
  pub can_end : CanEnd u
  pub spelled : (text after : List ℕ) → IsTextLeft u text → rest ≡ text ++ after
      → IsTextBefore long bytes after
  pub stops : (n : ℕ) → Stops (LeftOf u) rest n → Stops (TextsOf long) bytes n

-- Some of the cells have been read.
pub record CellsSoFar (kinds : List Kind) (body : List ℕ) (made : List Value) (to_come : List Kind)
    (rest : List ℕ) : Type 0 where
  pub spelled : (cells : List Value) → AreCells to_come cells → rest ≡ cells_bytes cells
      → AreCells kinds (made ++ cells) × (body ≡ cells_bytes (made ++ cells))
  pub stops : (n : ℕ) → Stops (SpellsCells to_come) rest n → Stops (SpellsCells kinds) body n

-- The cells take up all of the bytes.
pub record AreCellsSpelled (kinds : List Kind) (body : List ℕ) (cells : List Value) : Type 0 where
  pub fit : AreCells kinds cells
  pub spelled : body ≡ cells_bytes cells

pub record IsIdIn (model : ℕ) (bytes : List ℕ) (id : ℕ) (after : List ℕ) : Type 0 where
  pub of_model : IsOfModel model id
  pub split : bytes ≡ bytes_high_first 16 id ++ after

pub record IsTextIn (long : ℕ) (bytes text after : List ℕ) : Type 0 where
  pub valid : IsText long text
  pub split : bytes ≡ text ++ after

-- The first label, if there is one, is `low` or more.
abbrev pub StartsFrom : ℕ → List (ℕ × Bool) → Type 0
StartsFrom low [] = ⊤
StartsFrom low (p ∷ ps) = low ≤ p.0

-- A guard whose labels are `low` or more.
pub record IsGuardFrom (low : ℕ) (g : List (ℕ × Bool)) : Type 0 where
  pub guard : IsGuard g
  pub from : StartsFrom low g

abbrev pub SpellsFrom : ℕ → List ℕ → Type 0
SpellsFrom low bytes = (g : List (ℕ × Bool)) × IsGuardFrom low g × (bytes ≡ guard_bytes g)

-- The least label that may come next.
abbrev pub next_low : Option ℕ → ℕ
next_low None = 2 ^ 128
next_low (Some low) = low

-- Some pairs of the guard have been read.
pub record GuardSoFar (jvars : List ℕ) (made : List (ℕ × Bool)) (low : ℕ) (rest : List ℕ) : Type 0
  where
    pub spelled : (g : List (ℕ × Bool)) → IsGuardFrom low g → rest ≡ guard_bytes g
        → IsGuard (made ++ g) × (jvars ≡ guard_bytes (made ++ g))
    pub stops : (n : ℕ) → Stops (SpellsFrom low) rest n → Stops SpellsGuard jvars n

-- The guard takes up all of the bytes.
pub record IsSpelledGuard (jvars : List ℕ) (g : List (ℕ × Bool)) : Type 0 where
  pub guard : IsGuard g
  pub spelled : jvars ≡ guard_bytes g

-- The bytes begin with one pair.
pub record IsPairIn (low : ℕ) (bytes : List ℕ) (pair : ℕ × Bool) (after : List ℕ) : Type 0 where
  pub between : IsBetween low (2 ^ 128 - 1) pair.0
  pub split : bytes ≡ bytes_high_first 16 pair.0 ++ (sign_byte pair.1 ∷ after)
