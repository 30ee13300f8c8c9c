-- What is read from a schema text, and the states of its stores.
use Rattle.std.proofs.lemmas.List.{take-append-drop}
use Rattle.std.proofs.lemmas.Slice.Eq.{bytes_eq-Decides}
use Rattle.std.specs.Bool.{Decides}
use Rattle.std.specs.Str.{bytes_eq}
use Rattle.std.proofs.Common.{◌≡◌, inl, inr, ◌⊎◌, Result, Ok, Err, IfOk, ℕ, zero, suc, ◌+◌, ◌≤◌, Bool, true, false, if◌then◌else◌, List, [], ◌∷◌, ◌++◌, length, take, drop, Option, Some, None, IfSome, true≢false, refl, sym, ◌∙◌, ap, subst, arith}
use Rattle.std.specs.Option.{option_map}
use Rattle.jac_rows.specs.declared.row.Row.{Row}
use Rattle.jac_rows.specs.declared.state.State.{State}
use Rattle.jac_rows.specs.Good.{ModelShape, AreGuarded, AreSound, IsNext, IsSound}
use Rattle.jac_value.specs.declared.value.Kind.{Kind}
use Rattle.jac_tree.specs.Grammar.{Spells, IsBegunDocument, IsBegunWithin}
use Rattle.jac_tree.specs.Plain.{PlainTree, nesting}
use Rattle.jac_tree.specs.Printed.{printed_tree}
use Rattle.jac_tree.specs.Reading.{HasFault}
use Rattle.jac_tree.specs.declared.fault.TreeFault.{TreeFault}
use Rattle.jac_tree.specs.declared.fault.TreeFault.TheVariants as faults
use Rattle.jac_tree.proofs.Unique.{spells_one}
use Rattle.jac_tree.proofs.Printing.{printed_spells, spelled_atoms}
use Rattle.jac_keep.specs.Schema.{IsSchema, IsFit, empties, shapes_by, shapes_of_schema}
use Rattle.jac_keep.specs.KeeperState.{KeeperState, IsStored, attached_state, after_attach, seen_keeper}
use Rattle.jac_keep.specs.Attaching.{IsNewStore, OpensStore, Attaches}
use Rattle.jac_keep.proofs.SoundLaws as sound

-- The items made so far, followed by the rest.
abbrev pub made_before : {A : Type 0} → List A → Option (List A) → Option (List A)
made_before made rest = option_map (λ more. made ++ more) rest

-- A schema text spells its tree.
pub schema_spells : (text : List ℕ) (kinds : List ModelShape) → (s : IsSchema text kinds) → Spells text s.tree
schema_spells text kinds s = subst (λ (bytes : List ℕ). Spells bytes s.tree) (sym s.spelled) (printed_spells s.tree s.atoms)

some_injective : {A : Type 0} → (x y : A) → Some x ≡ Some y → x ≡ y
some_injective x y e = cc

some_is_none : {A : Type 0} → (x : A) → Some x ≡ None → ⊥
some_is_none x e = cc

-- A text has at most one list of shapes.
pub schema_one : (text : List ℕ) (kinds others : List ModelShape) → IsSchema text kinds → IsSchema text others → kinds ≡ others
schema_one text kinds others a b =
    let same : a.tree ≡ b.tree = spells_one text a.tree b.tree (schema_spells text kinds a) (schema_spells text others b) in
    some_injective kinds others (sym a.read ∙ ap shapes_of_schema same ∙ b.read)

-- The first bytes of a text that spells a tree are the beginning of such a text.
begun : (at : ℕ) (text : List ℕ) (t : PlainTree) → Spells text t → IsBegunDocument (take at text)
begun at text t spelled = (drop at text, t, subst (λ (bytes : List ℕ). Spells bytes t) (sym (take-append-drop at text)) spelled)

begun_within : (at : ℕ) (text : List ℕ) (t : PlainTree) → Spells text t → nesting t ≤ 64 → IsBegunWithin 64 (take at text)
begun_within at text t spelled shallow =
    (drop at text, t, subst (λ (bytes : List ℕ). Spells bytes t) (sym (take-append-drop at text)) spelled, shallow)

-- If bytes have a fault, they spell no tree of at most 64 levels.
pub no_tree_at_fault : (text : List ℕ) (fault : TreeFault) (t : PlainTree) → HasFault text fault → ¬ (fault ≡ faults.Memory) → Spells text t → nesting t ≤ 64 → ⊥
no_tree_at_fault text faults.Memory t has other spelled shallow = other refl
no_tree_at_fault text (faults.Stray at) t has other spelled shallow = has.after (begun (at + 1) text t spelled)
no_tree_at_fault text (faults.Deep at) t has other spelled shallow = has.deeper (begun_within (at + 1) text t spelled shallow)
no_tree_at_fault text (faults.Unclosed at) t has other spelled shallow = has.none t spelled
no_tree_at_fault text faults.Long t has other spelled shallow = has
no_tree_at_fault text (faults.NotUtf8 at) t has other spelled shallow = has

no_schema_at_fault : (text : List ℕ) (fault : TreeFault) → HasFault text fault → ¬ (fault ≡ faults.Memory) → (kinds : List ModelShape) → ¬ (IsSchema text kinds)
no_schema_at_fault text fault has other kinds s = no_tree_at_fault text fault s.tree has other (schema_spells text kinds s) s.shallow

pub no_schema_if : {E S : Type 0} (text : List ℕ) (fault : TreeFault) (result : Result (Option S) E) → HasFault text fault
    → IfOk result (λ _. ¬ (fault ≡ faults.Memory)) → IfOk result (λ found. found ≡ None → (kinds : List ModelShape) → ¬ (IsSchema text kinds))
no_schema_if text fault (Ok found) has other = λ none kinds s. no_schema_at_fault text fault has other kinds s
no_schema_if text fault (Err e) has other = tt

-- Empty tables are good for all models.
empties_good : (kinds : List ModelShape) (next model n : ℕ) → AreGuarded kinds next model (empties n)
empties_good kinds next model zero = tt
empties_good kinds next model (suc n) = (tt, tt, empties_good kinds next (model + 1) n)

pub length_empties : (n : ℕ) → length (empties n) ≡ n
length_empties zero = refl
length_empties (suc n) = ap suc (length_empties n)

-- A new store fits its schema.
pub empties_fit : (kinds : List ModelShape) (s : State) → IsNext s.number → IsFit kinds (record s { tables = empties (length kinds) })
empties_fit kinds s next = record { good = (next, empties_good kinds s.number 0 (length kinds)); tables = length_empties (length kinds) }

-- A state that may be attached is sound.
pub stored_sound : (schema : Option (List ℕ)) (s : State) → IsStored schema s → IsSound s
stored_sound None s stored = record { next = stored.1; tables = subst (λ (ts : List (List Row)). AreSound s.number 0 ts) (sym stored.0) tt }
stored_sound (Some schema) s stored = sound.sound_if_good stored.0.0 s (stored.1 stored.0.0 stored.0.1).good

-- If a tree spells a text, and the text is its printed form, the text is a schema with the shapes
-- that the tree gives.
found_schema : (text : List ℕ) (tree : PlainTree) (shapes : List ModelShape) → nesting tree ≤ 64 → Spells text tree
    → Some shapes ≡ (if bytes_eq text (printed_tree tree) then shapes_of_schema tree else None) → IsSchema text shapes
found_schema text tree shapes shallow spelled found =
    at_test (bytes_eq text (printed_tree tree)) (bytes_eq-Decides text (printed_tree tree)) found
  where
    at_test : (b : Bool) → Decides b (text ≡ printed_tree tree) → Some shapes ≡ (if b then shapes_of_schema tree else None) → IsSchema text shapes
    at_test true same read = record { tree = tree; atoms = spelled_atoms text tree spelled; shallow = shallow; spelled = same.0 refl; read = sym read }
    at_test false same read = absurd (some_is_none shapes read)

pub found_shapes : {S : Type 0} (f : S → List ModelShape) (text : List ℕ) (tree : PlainTree) (found : Option S) → nesting tree ≤ 64 → Spells text tree
    → option_map f found ≡ (if bytes_eq text (printed_tree tree) then shapes_of_schema tree else None) → IfSome found (λ s. IsSchema text (f s))
found_shapes f text tree None shallow spelled found = tt
found_shapes f text tree (Some s) shallow spelled found = found_schema text tree (f s) shallow spelled found

-- There are as many shapes as lists of kinds.
pub length_shapes : (kinds : List (List Kind)) (nested : List Bool) → length (shapes_by kinds nested) ≡ length kinds
length_shapes [] nested = refl
length_shapes (ks ∷ kinds) [] = ap suc (length_shapes kinds [])
length_shapes (ks ∷ kinds) (n ∷ nested) = ap suc (length_shapes kinds nested)

-- If the tree gives no shapes, the text is no schema.
pub no_schema : (text : List ℕ) (tree : PlainTree) → ((t : PlainTree) → Spells text t → t ≡ tree)
    → None ≡ (if bytes_eq text (printed_tree tree) then shapes_of_schema tree else None) → (kinds : List ModelShape) → ¬ (IsSchema text kinds)
no_schema text tree one none kinds s =
    let same : s.tree ≡ tree = one s.tree (schema_spells text kinds s) in
    let printed_so : text ≡ printed_tree tree = s.spelled ∙ ap printed_tree same in
    let read : shapes_of_schema tree ≡ Some kinds = ap shapes_of_schema (sym same) ∙ s.read in
    at_test (bytes_eq text (printed_tree tree)) (bytes_eq-Decides text (printed_tree tree)) printed_so read none
  where
    at_test : (b : Bool) → Decides b (text ≡ printed_tree tree) → text ≡ printed_tree tree → shapes_of_schema tree ≡ Some kinds → None ≡ (if b then shapes_of_schema tree else None) → ⊥
    at_test true same printed_so read none = some_is_none kinds (sym read ∙ sym none)
    at_test false same printed_so read none = true≢false (sym (same.1 printed_so))

-- If a store has no schema or this one, its state fits the schema after it is attached.
pub fit_after : (stored : Option (List ℕ)) (schema : List ℕ) (s : State) (kinds : List ModelShape) → IsSchema schema kinds → IsStored stored s
    → (stored ≡ None) ⊎ (stored ≡ Some schema) → IsFit kinds (attached_state stored (length kinds) s)
fit_after None schema s kinds is held known = empties_fit kinds s held.1
fit_after (Some text) schema s kinds is held (inl none) = absurd (some_is_none text none)
fit_after (Some text) schema s kinds is held (inr same) =
    held.1 kinds (subst (λ (t : List ℕ). IsSchema t kinds) (sym (some_injective text schema same)) is)

-- A new store's state is sound.
pub new_sound : (schema : List ℕ) (kinds : List ModelShape) (s : State) (tables : List (List Row)) → IsNext s.number
    → tables ≡ empties (length kinds) → IsSound (record s { tables = tables })
new_sound schema kinds s tables next same =
    subst (λ (ts : List (List Row)). IsSound (record s { tables = ts })) (sym same)
    (sound.sound_if_good kinds (record s { tables = empties (length kinds) }) (empties_fit kinds s next).good)

opens : (old : KeeperState) (name : Option (List ℕ)) (schema : List ℕ) (kinds : List ModelShape) → IsSchema schema kinds
    → IsStored old.store.schema old.state → (old.store.schema ≡ None) ⊎ (old.store.schema ≡ Some schema)
    → OpensStore (seen_keeper old) (seen_keeper (after_attach name schema (length kinds) old)) name schema
opens old name schema kinds is held known = record {
  attached = refl;
  named = refl;
  stored = refl;
  fit = λ _ others also. subst (λ ks. IsFit ks (attached_state old.store.schema (length kinds) old.state))
      (schema_one schema kinds others is also) (fit_after old.store.schema schema old.state kinds is held known);
  known = λ _ _. known;
  kept = λ _ _ same. ap (λ t. attached_state t (length kinds) old.state) same;
  made = λ _ _ none others also. new_store none (schema_one schema kinds others is also);
}
  where
    new_store : {others : List ModelShape} → old.store.schema ≡ None → kinds ≡ others → IsNewStore old.state others (attached_state old.store.schema (length kinds) old.state)
    new_store {others} none same =
        subst (λ ks. IsNewStore old.state ks (attached_state old.store.schema (length kinds) old.state)) same
        (subst (λ t. IsNewStore old.state kinds (attached_state t (length kinds) old.state)) (sym none) (record { tables = refl; number = refl }))

-- The keeper after a call of `attach` that succeeds.
pub attaches_ok : (old new : KeeperState) (name : Option (List ℕ)) (schema : List ℕ) (kinds : List ModelShape) → IsSchema schema kinds
    → IsStored old.store.schema old.state → (old.store.schema ≡ None) ⊎ (old.store.schema ≡ Some schema)
    → new ≡ after_attach name schema (length kinds) old → Attaches (seen_keeper old) (seen_keeper new) name schema (Ok tt)
attaches_ok old new name schema kinds is held known same =
    subst (λ (k : KeeperState). Attaches (seen_keeper old) (seen_keeper k) name schema (Ok tt)) (sym same) (record {
      later = omega (arith);
      called = refl;
      ok = opens old name schema kinds is held known;
      err = λ _. tt;
      unattached = tt;
      rose = λ e. absurd (cc);
      other = λ stored e. absurd (cc);
      known_other = λ stored e. absurd (cc);
    })
