-- Conditions that compare a field of the first binder's record with a value that is at hand.
use Rattle.std.proofs.Common.{◌≡◌, refl, ap, sym, ◌∙◌, ◌<◌, ℕ, true, false, if◌then◌else◌, List, [], ◌∷◌, ◌++◌, append_assoc, length, Bool, Option, None, Some}
use Rattle.std.specs.Prelude.{IfSome}
use Rattle.std.proofs.lemmas.Bool.{and_parts}
use Rattle.std.proofs.lemmas.Bool.Decides.{Decides-eqb}
use Rattle.std.proofs.lemmas.Slice.Eq.{slice_eq-Decides}
use Rattle.jac_value.specs.declared.value.Value.{Value}
use Rattle.jac_value.specs.declared.value.Value.TheVariants as value
use Rattle.jac_lang.specs.declared.bindings.Binding.{Binding}
use Rattle.jac_lang.specs.declared.queries.Binder.{Binder}
use Rattle.jac_lang.specs.Lookup.{fields_at, model_place, same_text}
use Rattle.jac_lang.specs.Mirror.{application_of}
use Rattle.jac_lang.specs.Syntax.{Entity, Expression}
use Rattle.jac_plain.specs.World.{World, got}
use Rattle.jac_plain.specs.Expressions.{binding, is_true, mean}
use Rattle.jac_shown_rows.specs.declared.column.Column.{Column}
use Rattle.jac_shown_rows.specs.Columns.{column_got}
use Rattle.jac_shown_rows.specs.Comparisons.{IsFieldOf, ids_compared}
use Rattle.jac_shown_rows.specs.Local.{is_free_model, is_free_place, is_local}
use Rattle.jac_shown_rows.specs.RecordIds.{first_bound, kept_ids}
use Rattle.jac_shown_rows.proofs.Names.{look-found}

-- What follows from a value, if there is one.
pub if_some : {T : Type 0} → (o : Option T) (P Q : T → Type 0) → ((x : T) → P x → Q x) → IfSome o P → IfSome o Q
if_some None P Q f h = tt
if_some (Some x) P Q f h = f x h

text_is_itself : (a : List ℕ) → same_text a a ≡ true
text_is_itself a = (slice_eq-Decides Decides-eqb a a _ refl).1 refl

-- The field with these names, of the record to which the name is bound.
pub field_of_bound : (models : List Entity) (name model field : List ℕ) (of : Expression) (o : Option Column) → of ≡ Expression.name name →
    IfSome o (λ c. c.model < length c.app.now.models) → IfSome o (λ c. c.field < length (fields_at (application_of c.app.now).models c.model)) →
    IfSome o (λ c. Some c.model ≡ model_place models model) →
    ((w : World) → w.models ≡ models → (v : Value) → column_got w.tables o v ≡ got w model field v) →
    IfSome o (IsFieldOf models name (Expression.get model field of))
field_of_bound models name model field of None named m f place read = tt
field_of_bound models name model field of (Some c) named m f place read =
    record {
      means = λ w same env u.
          let inner = env ++ binding name u ∷ [] in
          ap (λ e. got w model field (mean w e inner)) named
          ∙ ap (got w model field) (look-found inner env (binding name u) name refl (text_is_itself name))
          ∙ sym (read w same u);
      local = λ v h.
          let own = ap (λ e. is_local models v (Expression.get model field e)) (sym named) ∙ h in
          ap (is_free_place models) place ∙ (and_parts (is_free_model models model) true own).0;
      within = record { model = m; field = f };
    }

-- The rest, with or without one more in front of it.
pub kept_if : {T : Type 0} → (b : Bool) (x : T) (xs : List T) → (if b then x ∷ xs else xs) ≡ (if b then x ∷ [] else []) ++ xs
kept_if true x xs = refl
kept_if false x xs = refl

-- One more id, if the value is true.
pub compared_more : (f : ℕ → Value) (done new : List ℕ) (j : ℕ) (left rest total : List ℕ) → left ≡ j ∷ rest →
    new ≡ done ++ (if is_true (f j) then j ∷ [] else []) →
    done ++ ids_compared f left ≡ total → new ++ ids_compared f rest ≡ total
compared_more f done new j left rest total first pushed so_far =
    let kept = ids_compared f rest in
    ap (λ l. l ++ kept) pushed
    ∙ append_assoc done (if is_true (f j) then j ∷ [] else []) kept
    ∙ ap (λ l. done ++ l) (sym (kept_if (is_true (f j)) j kept))
    ∙ ap (λ l. done ++ ids_compared f l) (sym first)
    ∙ so_far

-- The ids for which the condition is true, if it is the comparison.
pub compared_kept : (bs : List Binder) (cond : List Binding → Value) (env : List Binding) (f : ℕ → Value) (js : List ℕ) →
    ((j : ℕ) → cond (env ++ first_bound bs (value.Ref (Some j))) ≡ f j) → ids_compared f js ≡ kept_ids bs cond env js
compared_kept bs cond env f [] h = refl
compared_kept bs cond env f (j ∷ js) h =
    let kept = kept_ids bs cond env js in
    ap (λ l. if is_true (f j) then j ∷ l else l) (compared_kept bs cond env f js h)
    ∙ ap (λ v. if is_true v then j ∷ kept else kept) (sym (h j))
