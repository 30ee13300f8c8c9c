-- The parts of a keeper's tables.
use Rattle.std.specs.Prelude.{◌≡◌, ℕ, Bool, true, false, List, [], ◌∷◌, codes}
use Rattle.sqlite_value.specs.declared.value.Value.TheVariants.{Null}
use Rattle.sqlite_value.specs.declared.keys.Collation.TheVariants.{Binary}
use Rattle.sqlite_schema.specs.declared.schema.Column.{Column}
use Rattle.sqlite_schema.specs.declared.schema.Kind.{Kind}
use Rattle.sqlite_schema.specs.declared.schema.Kind.TheVariants.{Integer, Blob}
use Rattle.sqlite_schema.specs.declared.schema.Table.{Table}

-- A column that takes values of its type alone.
abbrev pub column_of : List ℕ → Kind → Bool → Column
column_of name kind not_null = record {
  name = name;
  kind = kind;
  is_strict = true;
  not_null = not_null;
  default = Null;
  collation = Binary;
}

abbrev pub rec_columns : List Column
rec_columns =
    column_of (codes "model") Integer true ∷ column_of (codes "jid") Blob true ∷ column_of
    (codes "alt") Integer true ∷ column_of (codes "jvars") Blob true ∷ column_of (codes "body")
    Blob true ∷ []

-- A table with this name and tree, without anything that a keeper doesn't use.
pub record IsPlainTable (t : Table) (name : List ℕ) (tree : ℕ) : Type 0 where
  pub name_is : t.name ≡ name
  pub tree_is : t.tree ≡ tree
  pub checks : t.checks ≡ []
  pub references : t.references ≡ []
  pub computed : t.computed ≡ []
  pub places : t.stamps.places ≡ []
  pub terms : t.stamps.terms ≡ []
  pub formats : t.stamps.formats ≡ []
  pub uncounted : t.is_counted ≡ false
