-- What each SQL text means over the two tables.
use Rattle.std.proofs.Common.{◌≡◌, ℕ, pos, negsuc, List, [], ◌∷◌, codes, Bool, true, false, Some, None, Ok, Err, refl}
use Rattle.sqlite_value.specs.declared.value.Value.TheVariants.{Null, Int}
use Rattle.sqlite_value.specs.declared.keys.Collation.TheVariants.{Binary}
use Rattle.sqlite_value.specs.Keys.{ascending}
use Rattle.sqlite_value.specs.declared.keys.Key.{Key}
use Rattle.sqlite.specs.Term.{Term, lit, col, op2}
use Rattle.sqlite.specs.Query.{Query, inner, end}
use Rattle.sqlite.specs.Schema.{Schema}
use Rattle.sqlite.specs.Source.TheVariants.{Values}
use Rattle.sqlite.specs.Command.TheVariants.{Insert, Select, Update, Delete}
use Rattle.sqlite_sql.specs.declared.ops.BinaryOp.TheVariants.{Compare}
use Rattle.sqlite_sql.specs.declared.ops.CompareOp.TheVariants.{Eq}
use Rattle.sqlite_tied.specs.Compute.{everything}
use Rattle.sqlite.specs.Listing.{understood, reads_listing}
use Rattle.sqlite.proofs.Callers.{IsPlain, command_of, statement_of}
use Rattle.jac_sql_spec.specs.Tables.{meta, rec, two_tables}

abbrev pub number_text : List ℕ
number_text = codes "SELECT number, schema FROM meta WHERE k = 0"

abbrev pub is : Term → Term → Term
is a b = op2 (Compare Eq Binary) a b

abbrev pub over : ℕ → List Term → List Term → List (Term × Key) → Query
over tree filter project order = record {
  from = inner tree end;
  filter = filter;
  group = None;
  project = project;
  distinct = false;
  collations = [];
  order = order;
  limit = lit (Int (negsuc 0));
  offset = lit (Int (pos 0));
}

abbrev pub number_query : Query
number_query = over 0 (is (col 1 0) (lit (Int (pos 0))) ∷ []) (col 1 2 ∷ col 1 3 ∷ []) []

pub number_is : (command_of (understood (two_tables 0 1 2) number_text) ≡ Select (record { lets = []; body = number_query }) (codes "number" ∷ codes "schema" ∷ [])) × (reads_listing (two_tables 0 1 2) number_text ≡ false)
unfolding understood everything
number_is = (refl, refl)

pub number_plain : IsPlain (understood (two_tables 0 1 2) number_text)
unfolding understood everything
number_plain = (refl, refl)

abbrev pub by : ℕ → Term × Key
by place = (col 1 place, ascending Binary)

abbrev pub model_text : List ℕ
model_text = codes "SELECT jid, jvars, body FROM rec WHERE model = ?1 ORDER BY jid, alt"

abbrev pub record_text : List ℕ
record_text = codes "SELECT jvars, body FROM rec WHERE model = ?1 AND jid = ?2 ORDER BY alt"

abbrev pub remove_text : List ℕ
remove_text = codes "DELETE FROM rec WHERE model = ?1 AND jid = ?2"

abbrev pub add_text : List ℕ
add_text = codes "INSERT INTO rec(model, jid, alt, jvars, body) VALUES(?1, ?2, ?3, ?4, ?5)"

abbrev pub set_text : List ℕ
set_text = codes "UPDATE meta SET number = ?1 WHERE k = 0"

abbrev pub reshape_text : List ℕ
reshape_text = codes "UPDATE meta SET number = ?1, schema = ?2 WHERE k = 0"

abbrev pub all_text : List ℕ
all_text = codes "SELECT model, jid, alt, jvars, body, rowid FROM rec ORDER BY model, jid, alt"

pub model_is : command_of (understood (two_tables 0 1 2) model_text) ≡ Select (record { lets = []; body = over 1 (is (col 1 1) (col 0 0) ∷ []) (col 1 2 ∷ col 1 4 ∷ col 1 5 ∷ []) (by 2 ∷ by 3 ∷ []) }) (codes "jid" ∷ codes "jvars" ∷ codes "body" ∷ [])
unfolding understood everything
model_is = refl

pub record_is : command_of (understood (two_tables 0 1 2) record_text)
    ≡ Select (record { lets = []; body = over 1 (is (col 1 1) (col 0 0) ∷ is (col 1 2) (col 0 1) ∷ []) (col 1 4 ∷ col 1 5 ∷ []) (by 3 ∷ []) }) (codes "jvars" ∷ codes "body" ∷ [])
unfolding understood everything
record_is = refl

pub remove_is : command_of (understood (two_tables 0 1 2) remove_text) ≡ Delete 1 (record { lets = []; body = over 1 (is (col 1 1) (col 0 0) ∷ is (col 1 2) (col 0 1) ∷ []) (col 1 0 ∷ []) [] })
unfolding understood everything
remove_is = refl

pub remove_plain : IsPlain (understood (two_tables 0 1 2) remove_text)
unfolding understood everything
remove_plain = (refl, refl)

pub add_is : command_of (understood (two_tables 0 1 2) add_text) ≡ Insert 1 (Values (lit Null ∷ col 0 0 ∷ col 0 1 ∷ col 0 2 ∷ col 0 3 ∷ col 0 4 ∷ []) 6)
unfolding understood everything
add_is = refl

pub add_plain : IsPlain (understood (two_tables 0 1 2) add_text)
unfolding understood everything
add_plain = (refl, refl)

pub set_is : command_of (understood (two_tables 0 1 2) set_text) ≡ Update 0 (record { lets = []; body = over 0 (is (col 1 0) (lit (Int (pos 0))) ∷ []) (col 1 0 ∷ col 1 0 ∷ lit Null ∷ col 0 0 ∷ col 1 3 ∷ []) [] })
unfolding understood everything
set_is = refl

pub reshape_is : command_of (understood (two_tables 0 1 2) reshape_text)
    ≡ Update 0 (record { lets = []; body = over 0 (is (col 1 0) (lit (Int (pos 0))) ∷ []) (col 1 0 ∷ col 1 0 ∷ lit Null ∷ col 0 0 ∷ col 0 1 ∷ []) [] })
unfolding understood everything
reshape_is = refl

pub all_is : command_of (understood (two_tables 0 1 2) all_text)
    ≡ Select (record { lets = []; body = over 1 [] (col 1 1 ∷ col 1 2 ∷ col 1 3 ∷ col 1 4 ∷ col 1 5 ∷ col 1 0 ∷ []) (by 1 ∷ by 2 ∷ by 3 ∷ []) })
    (codes "model" ∷ codes "jid" ∷ codes "alt" ∷ codes "jvars" ∷ codes "body" ∷ codes "rowid" ∷ [])
unfolding understood everything
all_is = refl

pub start_is : command_of (understood (two_tables 0 1 2) (codes "INSERT INTO meta(k, number, schema) VALUES(0, 1, ?1)")) ≡ Insert 0 (Values (lit (Int (pos 0)) ∷ lit Null ∷ lit (Int (pos 1)) ∷ col 0 0 ∷ []) 4)
unfolding understood everything
start_is = refl

pub model_plain : IsPlain (understood (two_tables 0 1 2) model_text) × (reads_listing (two_tables 0 1 2) model_text ≡ false)
unfolding understood everything
model_plain = ((refl, refl), refl)

pub record_plain : IsPlain (understood (two_tables 0 1 2) record_text) × (reads_listing (two_tables 0 1 2) record_text ≡ false)
unfolding understood everything
record_plain = ((refl, refl), refl)

-- The rows of a model, and the rowids of a record.
abbrev pub of_model : Query
of_model = over 1 (is (col 1 1) (col 0 0) ∷ []) (col 1 2 ∷ col 1 4 ∷ col 1 5 ∷ []) (by 2 ∷ by 3 ∷ [])

abbrev pub of_record : Query
of_record = over 1 (is (col 1 1) (col 0 0) ∷ is (col 1 2) (col 0 1) ∷ []) (col 1 0 ∷ []) []
