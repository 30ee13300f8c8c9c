-- A schema by its parts.
use Rattle.std.proofs.Common.{◌≡◌, ℕ, Bool, true, false, List, [], ◌∷◌, Option, Some, None, codes}
use Rattle.sqlite_value.specs.declared.value.Value.TheVariants.{Null}
use Rattle.sqlite_value.specs.declared.keys.Collation.TheVariants.{Binary}
use Rattle.sqlite_value.specs.declared.keys.Order.{Order}
use Rattle.sqlite_value.specs.Keys.{plain}
use Rattle.sqlite_schema.specs.declared.schema.Column.{Column}
use Rattle.sqlite_schema.specs.declared.schema.Index.{Index}
use Rattle.sqlite_schema.specs.declared.schema.Kind.{Kind}
use Rattle.sqlite_schema.specs.declared.schema.Kind.TheVariants.{Integer, Text, Blob}
use Rattle.sqlite_schema.specs.declared.schema.Schema.{Schema}
use Rattle.sqlite_schema.specs.declared.schema.Table.{Table}
use Rattle.jac_sql_spec.specs.Tables.{two_tables, meta, rec, only_key}
use Rattle.jac_sqlkeep.specs.Form.{column_of, rec_columns, IsPlainTable}

pub order_is : (o : Order) → o.digits ≡ 0 → o ≡ plain
order_is o digits = λ i. record { digits = digits i }

pub column_is : (c : Column) (name : List ℕ) (kind : Kind) (not_null : Bool) → c.name ≡ name → c.kind ≡ kind → c.is_strict ≡ true → c.not_null ≡ not_null → c.default ≡ Null → c.collation ≡ Binary → c ≡ column_of name kind not_null
column_is c name kind not_null named of strict nulls default collation = λ i. record { name = named i; kind = of i; is_strict = strict i; not_null = nulls i; default = default i; collation = collation i }

table_is : (t : Table) (name : List ℕ) (tree : ℕ) (columns : List Column) (key : Option ℕ) (primary : List ℕ) (uniques : List (List ℕ)) (orders : List Order) → IsPlainTable t name tree → t.columns ≡ columns → t.key ≡ key → t.primary ≡ primary → t.uniques ≡ uniques → t.orders ≡ orders
    → t ≡ record {
      name = name;
      tree = tree;
      columns = columns;
      key = key;
      primary = primary;
      uniques = uniques;
      orders = orders;
      checks = [];
      references = [];
      computed = [];
      stamps = record { places = []; terms = []; formats = [] };
      is_counted = false;
    }
table_is t name tree columns key primary uniques orders is one two three four five =
    let named = is.name_is in
    let at = is.tree_is in
    let checks = is.checks in
    let references = is.references in
    let computed = is.computed in
    let places = is.places in
    let terms = is.terms in
    let formats = is.formats in
    let uncounted = is.uncounted in
    λ i. record {
      name = named i;
      tree = at i;
      columns = one i;
      key = two i;
      primary = three i;
      uniques = four i;
      orders = five i;
      checks = checks i;
      references = references i;
      computed = computed i;
      stamps = record { places = places i; terms = terms i; formats = formats i };
      is_counted = uncounted i;
    }

columns_three : (columns : List Column) (a b c x y z : Column) → columns ≡ a ∷ b ∷ c ∷ [] → a ≡ x → b ≡ y → c ≡ z → columns ≡ x ∷ y ∷ z ∷ []
columns_three columns a b c x y z are one two three = rw are (λ i. one i ∷ two i ∷ three i ∷ [])

pub meta_is : (t : Table) (a b c : Column) → IsPlainTable t (codes "meta") 0 → t.columns ≡ a ∷ b ∷ c ∷ [] → a ≡ column_of (codes "k") Integer false → b ≡ column_of (codes "number") Integer true → c ≡ column_of (codes "schema") Text true
    → t.key ≡ Some 0 → t.primary ≡ 0 ∷ [] → t.uniques ≡ [] → t.orders ≡ [] → t ≡ meta 0
meta_is t a b c is columns one two three key primary uniques orders =
    table_is t (codes "meta") 0 (column_of (codes "k") Integer false ∷ column_of (codes "number") Integer true ∷ column_of (codes "schema") Text true ∷ []) (Some 0) (0 ∷ []) [] [] is
    (columns_three t.columns a b c _ _ _ columns one two three) key primary uniques orders

pub rec_columns_are : (columns : List Column) (a b c d e : Column) → columns ≡ a ∷ b ∷ c ∷ d ∷ e ∷ [] → a ≡ column_of (codes "model") Integer true → b ≡ column_of (codes "jid") Blob true
    → c ≡ column_of (codes "alt") Integer true → d ≡ column_of (codes "jvars") Blob true → e ≡ column_of (codes "body") Blob true → columns ≡ rec_columns
rec_columns_are columns a b c d e are one two three four five = rw are (λ i. one i ∷ two i ∷ three i ∷ four i ∷ five i ∷ [])

pub rec_is : (t : Table) (unique : List ℕ) (order : Order) → IsPlainTable t (codes "rec") 1 → t.columns ≡ rec_columns → t.key ≡ None → t.primary ≡ 1 ∷ 2 ∷ 3 ∷ [] → t.uniques ≡ unique ∷ [] → unique ≡ 1 ∷ 2 ∷ 3 ∷ []
    → t.orders ≡ order ∷ [] → order ≡ plain → t ≡ rec 1
rec_is t unique order is columns key primary uniques places orders ordered =
    table_is t (codes "rec") 1 rec_columns None (1 ∷ 2 ∷ 3 ∷ []) ((1 ∷ 2 ∷ 3 ∷ []) ∷ []) (plain ∷ []) is columns key primary (rw uniques (λ i. places i ∷ [])) (rw orders (λ i. ordered i ∷ []))

pub key_is : (x : Index) → x.name ≡ codes "sqlite_autoindex_rec_1" → x.tree ≡ 2 → x.table ≡ 1 → x.columns ≡ 1 ∷ 2 ∷ 3 ∷ [] → x.order ≡ plain → x.is_unique ≡ true → x ≡ only_key 1 2
key_is x named tree table columns order unique = λ i. record { name = named i; tree = tree i; table = table i; columns = columns i; order = order i; is_unique = unique i }

pub form_is : (s : Schema) (a b : Table) (x : Index) → s.tables ≡ a ∷ b ∷ [] → s.indexes ≡ x ∷ [] → s.views ≡ [] → a ≡ meta 0 → b ≡ rec 1 → x ≡ only_key 1 2 → s ≡ two_tables 0 1 2
form_is s a b x tables indexes views one two three =
    let both : s.tables ≡ meta 0 ∷ rec 1 ∷ [] = rw tables (λ i. one i ∷ two i ∷ []) in
    let single : s.indexes ≡ only_key 1 2 ∷ [] = rw indexes (λ i. three i ∷ []) in
    λ i. record { tables = both i; indexes = single i; views = views i }
