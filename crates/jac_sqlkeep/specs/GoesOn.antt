-- What any number of calls of a keeper over SQLite preserve.
use Rattle.std.proofs.Common.{◌≤◌, ◌⊎◌, inl, inr, Option, Some, None, arith}
use Rattle.sqlite_trees.specs.declared.store.Store.{Ghosts}
use Rattle.jac_io.specs.Faults.{Rose}
use Rattle.jac_keep.specs.Preorder.{Preorder}
use Rattle.jac_sqlkeep.specs.Based.{Based, DatabaseGoesOn}
use Rattle.jac_sqlkeep.specs.Kept.{Kept, KeeperGoesOn}

module _ {S : Type 0} (g : Ghosts S) where
  goes_same : (b : Based) → DatabaseGoesOn g b b
  goes_same b = record {
    tells = λ told opened. told;
    opens = λ opened. opened;
    clean = omega arith;
    counts = omega arith;
    closes = λ clean opened. inl opened;
    sure = λ law opened. opened;
    standing = λ is. is;
  }

  goes_joined : (a b c : Based) → DatabaseGoesOn g a b → DatabaseGoesOn g b c
      → DatabaseGoesOn g a c
  goes_joined a b c one two = record {
    tells = λ told opened. two.tells (one.tells told (two.opens opened)) opened;
    opens = λ opened. one.opens (two.opens opened);
    clean = omega (arith, one.clean, two.clean);
    counts = omega (arith, one.counts, two.counts);
    closes = λ clean opened. elim (one.closes (omega (arith, two.clean, clean)) opened) [
      | inl still ↦ elim (two.closes clean still) [
        | inl left ↦ inl left
        | inr rose ↦ inr (omega (arith, one.counts, rose))
      ]
      | inr rose ↦ inr (omega (arith, rose, two.counts))
    ];
    sure = λ law opened. two.sure law (one.sure law opened);
    standing = λ is. two.standing (one.standing is);
  }

  pub keeper_same : (o : Option Based) → KeeperGoesOn g o o
  keeper_same None = tt
  keeper_same (Some b) = goes_same b

  pub keeper_joined : (a b c : Option Based) → KeeperGoesOn g a b → KeeperGoesOn g b c
      → KeeperGoesOn g a c
  keeper_joined None b c one two = tt
  keeper_joined (Some a) None c one two = absurd one
  keeper_joined (Some a) (Some b) None one two = two
  keeper_joined (Some a) (Some b) (Some c) one two = goes_joined a b c one two

-- What each call of a keeper over SQLite preserves.
abbrev pub keeper_goes_on : {S : Type 0} → Ghosts S → Preorder Kept
keeper_goes_on g = record {
  holds = λ old new. KeeperGoesOn g old.database new.database;
  same = λ k. keeper_same g k.database;
  joined = λ a b c. keeper_joined g a.database b.database c.database;
}
