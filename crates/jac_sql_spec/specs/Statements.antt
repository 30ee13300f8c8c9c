-- The SQL statements that create a store, read it, and store a change.
use Rattle.std.specs.Prelude.{ℕ, ◌+◌, pos, List, [], ◌∷◌, ◌++◌, Option, Some, None, codes}
use Rattle.std.specs.Int.{w128, to_be_bytes}
use Rattle.sqlite_value.specs.Order.{Row as Values}
use Rattle.sqlite_value.specs.declared.value.Value.TheVariants.{Int, Text, Blob}
use Rattle.jac_value.specs.Ids.{model_of_id}
use Rattle.jac_rows.specs.declared.row.Row.{Row}
use Rattle.jac_row_codec.specs.Spelling.{guard_bytes, cells_bytes}
use Rattle.jac_keep.specs.declared.alteration.Alteration.{Alteration}
use Rattle.jac_keep.specs.declared.alteration.Change.{Change}

-- An SQL text, and the values of its parameters.
pub record SqlStatement : Type 0 where
  pub text : List ℕ
  pub params : Values

-- Makes the table of the number and the schema and the table of the rows, and stores the number 1.
unfoldable pub founding : List ℕ → List SqlStatement
founding schema =
    record {
      text = codes
          "CREATE TABLE meta(k INTEGER PRIMARY KEY, number INTEGER NOT NULL, schema TEXT NOT NULL) STRICT";
      params = [];
    }
    ∷ record {
      text = codes
          "CREATE TABLE rec(model INTEGER NOT NULL, jid BLOB NOT NULL, alt INTEGER NOT NULL, jvars BLOB NOT NULL, body BLOB NOT NULL, PRIMARY KEY(model, jid, alt)) STRICT";
      params = [];
    }
    ∷ record {
      text = codes "INSERT INTO meta(k, number, schema) VALUES(0, 1, ?1)";
      params = Text schema ∷ [];
    }
    ∷ []

-- The query for the number and the schema.
unfoldable pub reading : List ℕ
reading = codes "SELECT number, schema FROM meta WHERE k = 0"

-- The queries for the keys of `meta` and for all rows of `rec`. The order is that of the index, so
-- that the rows can be looked up one after another.
unfoldable pub key_reading : List ℕ
key_reading = codes "SELECT k FROM meta"

unfoldable pub all_reading : List ℕ
all_reading = codes "SELECT model, jid, alt, jvars, body, rowid FROM rec ORDER BY model, jid, alt"

-- The queries for the rows of a model and for the rows of a record.
unfoldable pub model_reading : ℕ → SqlStatement
model_reading model = record {
  text = codes "SELECT jid, jvars, body FROM rec WHERE model = ?1 ORDER BY jid, alt";
  params = Int (pos model) ∷ [];
}

unfoldable pub record_reading : ℕ → SqlStatement
record_reading id = record {
  text = codes "SELECT jvars, body FROM rec WHERE model = ?1 AND jid = ?2 ORDER BY alt";
  params = Int (pos (model_of_id id)) ∷ Blob (to_be_bytes w128 id) ∷ [];
}

unfoldable pub removal : ℕ → SqlStatement
removal id = record {
  text = codes "DELETE FROM rec WHERE model = ?1 AND jid = ?2";
  params = Int (pos (model_of_id id)) ∷ Blob (to_be_bytes w128 id) ∷ [];
}

-- Stores an alternative under this number.
unfoldable pub addition : ℕ → Row → SqlStatement
addition alt row = record {
  text = codes "INSERT INTO rec(model, jid, alt, jvars, body) VALUES(?1, ?2, ?3, ?4, ?5)";
  params = Int (pos (model_of_id row.id)) ∷ Blob (to_be_bytes w128 row.id) ∷ Int (pos alt)
      ∷ Blob (guard_bytes row.guard) ∷ Blob (cells_bytes row.cells) ∷ [];
}

unfoldable pub numbering : ℕ → SqlStatement
numbering number = record {
  text = codes "UPDATE meta SET number = ?1 WHERE k = 0";
  params = Int (pos number) ∷ [];
}

-- Stores the number and the schema text.
unfoldable pub reshaping : ℕ → List ℕ → SqlStatement
reshaping number schema = record {
  text = codes "UPDATE meta SET number = ?1, schema = ?2 WHERE k = 0";
  params = Int (pos number) ∷ Text schema ∷ [];
}

-- Stores the alternatives, numbered from `alt` on.
abbrev pub additions : ℕ → List Row → List SqlStatement
additions alt [] = []
additions alt (r ∷ rs) = addition alt r ∷ additions (alt + 1) rs

-- Replaces a whole record.
abbrev pub replacement : Alteration → List SqlStatement
replacement a = removal a.id ∷ additions 0 a.rows

abbrev pub replacements : List Alteration → List SqlStatement
replacements [] = []
replacements (a ∷ rest) = replacement a ++ replacements rest

abbrev pub sql_statements : Change → List SqlStatement
sql_statements change = replacements change.changed ++ (numbering change.number ∷ [])

-- Stores the number, and the schema text if there is one.
abbrev pub settings : ℕ → Option (List ℕ) → List SqlStatement
settings number None = numbering number ∷ []
settings number (Some schema) = reshaping number schema ∷ []

-- The statements of a change that may bring another schema.
abbrev pub statements_with : Change → Option (List ℕ) → List SqlStatement
statements_with change schema = replacements change.changed ++ settings change.number schema
