-- The two tables of a keeper with their trees, and the one row of `meta`.
use Rattle.std.specs.Prelude.{◌≡◌, ℕ, ℤ, pos, negsuc, Bool, true, false, List, [], ◌∷◌, Some, None, codes, slice_index_or}
use Rattle.sqlite_value.specs.declared.value.Value.TheVariants.{Null, Int, Real, Blob as Bytes, Text as Words}
use Rattle.sqlite_value.specs.declared.keys.Collation.TheVariants.{Binary}
use Rattle.sqlite_value.specs.Keys.{plain}
use Rattle.sqlite_value.specs.declared.value.Value.{Value}
use Rattle.sqlite_value.specs.Order.{Row, column}
use Rattle.sqlite_schema.specs.declared.schema.Column.{Column}
use Rattle.sqlite_schema.specs.declared.schema.Kind.{Kind}
use Rattle.sqlite_schema.specs.declared.schema.Kind.TheVariants.{Integer, Text, Blob}
use Rattle.sqlite_schema.specs.declared.schema.Table.{Table}
use Rattle.sqlite_schema.specs.declared.schema.Index.{Index}
use Rattle.sqlite_schema.specs.declared.schema.Schema.{Schema}
use Rattle.sqlite.specs.Effect.{Database}
use Rattle.sqlite.specs.State.{State}

-- The schema of an empty database.
abbrev pub no_tables : Schema
no_tables = record { tables = []; indexes = []; views = [] }

-- A column that takes values of its own type only, and no NULL.
abbrev pub strict : List ℕ → Kind → Column
strict name kind = record {
  name = name;
  kind = kind;
  is_strict = true;
  not_null = true;
  default = Null;
  collation = Binary;
}

-- The table of the number and the schema, in this tree.
abbrev pub meta : ℕ → Table
meta m = record {
  name = codes "meta";
  tree = m;
  columns = (record {
    name = codes "k";
    kind = Integer;
    is_strict = true;
    not_null = false;
    default = Null;
    collation = Binary;
  })
      ∷ strict (codes "number") Integer ∷ strict (codes "schema") Text ∷ [];
  key = Some 0;
  primary = 0 ∷ [];
  uniques = [];
  orders = [];
  checks = [];
  references = [];
  computed = [];
  stamps = record { places = []; terms = []; formats = [] };
  is_counted = false;
}

-- The table of the rows, in this tree.
abbrev pub rec : ℕ → Table
rec r = record {
  name = codes "rec";
  tree = r;
  columns = strict (codes "model") Integer ∷ strict (codes "jid") Blob ∷ strict (codes "alt")
      Integer ∷ strict (codes "jvars") Blob ∷ strict (codes "body") Blob ∷ [];
  key = None;
  primary = 1 ∷ 2 ∷ 3 ∷ [];
  uniques = (1 ∷ 2 ∷ 3 ∷ []) ∷ [];
  orders = plain ∷ [];
  checks = [];
  references = [];
  computed = [];
  stamps = record { places = []; terms = []; formats = [] };
  is_counted = false;
}

-- The index of the primary key of `rec`.
abbrev pub only_key : ℕ → ℕ → Index
only_key r i = record {
  name = codes "sqlite_autoindex_rec_1";
  tree = i;
  table = r;
  columns = 1 ∷ 2
      ∷ 3 ∷ [];
  order = plain;
  is_unique = true;
}

-- The schema of a keeper's database, with its tables and the index in these trees.
abbrev pub two_tables : ℕ → ℕ → ℕ → Schema
two_tables m r i = record { tables = meta m ∷ rec r ∷ []; indexes = only_key r i ∷ []; views = [] }

-- The one row of `meta`.
abbrev pub meta_row : ℕ → List ℕ → Row
meta_row number schema = Int (pos 0) ∷ Null ∷ Int (pos number) ∷ Words schema ∷ []
