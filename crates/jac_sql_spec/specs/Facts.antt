-- The rows of `rec` that a database has for a state, one for each alternative, without rowids.
use Rattle.std.specs.Prelude.{◌≡◌, ℕ, ◌+◌, ◌<◌, ◌^◌, ◌==◌, ◌&&◌, if◌then◌else◌, Bool, List, [], ◌∷◌, ◌++◌, ⊤}
use Rattle.std.specs.declared.cmp.Ordering.{Ordering}
use Rattle.std.specs.Ordering.{nat_cmp, ordering_then, is_eq}
use Rattle.std.specs.Cmp.Lexicographic.{slice_cmp}
use Rattle.std.specs.Int.{w128, to_be_bytes}
use Rattle.jac_value.specs.Ids.{model_of_id}
use Rattle.jac_rows.specs.Good.{AreTablesOf}
use Rattle.jac_rows.specs.declared.row.Row.{Row}
use Rattle.jac_row_codec.specs.Spelling.{guard_bytes, cells_bytes}
use Rattle.jac_keep.specs.Records.{AreOrdered}

-- A row of `rec` without its rowid.
pub record Fact : Type 0 where
  pub model : ℕ
  pub jid : List ℕ
  pub alt : ℕ
  pub jvars : List ℕ
  pub body : List ℕ

-- The bytes of an id.
abbrev pub id_bytes : ℕ → List ℕ
id_bytes id = to_be_bytes w128 id

-- The fact of an alternative with this number.
abbrev pub fact_of : ℕ → ℕ → Row → Fact
fact_of model alt r = record {
  model = model;
  jid = id_bytes r.id;
  alt = alt;
  jvars = guard_bytes r.guard;
  body = cells_bytes r.cells;
}

-- How many alternatives of each record there are, with one more of this record.
abbrev pub count_with : ℕ → (ℕ → ℕ) → ℕ → ℕ
count_with id before i = if i == id then before i + 1 else before i

abbrev pub none_yet : ℕ → ℕ
none_yet id = 0

-- The fact of each row. An alternative's number is how many alternatives of its record come before
-- it.
abbrev pub numbered_facts : ℕ → (ℕ → ℕ) → List Row → List Fact
numbered_facts model before [] = []
numbered_facts model before (r ∷ rs) = fact_of model (before r.id) r ∷ numbered_facts model
    (count_with r.id before) rs

abbrev pub facts_from : ℕ → List (List Row) → List Fact
facts_from model [] = []
facts_from model (t ∷ ts) = numbered_facts model none_yet t ++ facts_from (model + 1) ts

-- The facts of all tables, by model, id and number.
abbrev pub facts : List (List Row) → List Fact
facts tables = facts_from 0 tables

-- Compares the models, then the bytes of the ids, then the numbers.
abbrev pub fact_cmp : Fact → Fact → Ordering
fact_cmp a b = ordering_then (nat_cmp a.model b.model)
    (ordering_then (slice_cmp nat_cmp a.jid b.jid) (nat_cmp a.alt b.alt))

-- The row's id belongs to this model and fits into 16 bytes.
pub record IsPlaced (model : ℕ) (r : Row) : Type 0 where
  pub of_model : model_of_id r.id ≡ model
  pub room : r.id < 2 ^ 128

-- The rows of each table belong to its model, and their ids don't fall.
abbrev pub ArePlacedFrom : ℕ → List (List Row) → Type 0
ArePlacedFrom = AreTablesOf AreOrdered IsPlaced

abbrev pub AreKept : List (List Row) → Type 0
AreKept = ArePlacedFrom 0

-- Tests of facts, as the database makes them.
abbrev pub is_fact_in : ℕ → Fact → Bool
is_fact_in model f = is_eq (nat_cmp f.model model)

abbrev pub is_fact_of : ℕ → List ℕ → Fact → Bool
is_fact_of model jid f = is_eq (nat_cmp f.model model) && is_eq (slice_cmp nat_cmp f.jid jid)
