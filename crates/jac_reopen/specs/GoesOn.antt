-- What any number of calls of a keeper that opens its store again preserve.
use Rattle.std.proofs.Common.{inl, inr, Option, Some, None, arith}
use Rattle.jac_keep.specs.KeeperSeen.{KeeperSeen}
use Rattle.jac_keep.specs.Preorder.{Preorder}
use Rattle.jac_reopen.specs.Reopened.{ReopenSeen, GoesAlong, GivesUpAtFault}

pub along_same : {V : Type 0} (goes : Preorder V) (a : Option V) → GoesAlong goes.holds a a
along_same goes None = tt
along_same goes (Some a) = goes.same a

pub along_joined : {V : Type 0} (goes : Preorder V) (a b c : Option V) → GoesAlong goes.holds a b
    → GoesAlong goes.holds b c → GoesAlong goes.holds a c
along_joined goes None None c one two = two
along_joined goes None (Some b) c one two = absurd one
along_joined goes (Some a) None c one two = absurd one
along_joined goes (Some a) (Some b) None one two = two
along_joined goes (Some a) (Some b) (Some c) one two = goes.joined a b c one two

pub gives_up_same : {V : Type 0} (seen : V → KeeperSeen) (goes : Preorder V) (a : ReopenSeen V)
    → GivesUpAtFault seen goes.holds a a
gives_up_same seen goes a = record {
  later = omega arith;
  fault = λ kept. inl kept;
  once = λ kept. kept;
  first = λ kept. along_same goes a.first;
}

pub gives_up_joined : {V : Type 0} (seen : V → KeeperSeen) (goes : Preorder V)
    (a b c : ReopenSeen V) → GivesUpAtFault seen goes.holds a b → GivesUpAtFault seen goes.holds b c
    → GivesUpAtFault seen goes.holds a c
gives_up_joined seen goes a b c one two = record {
  later = omega (arith, one.later, two.later);
  fault = λ kept. elim (one.fault kept) [
    | inl still ↦ elim (two.fault still) [
      | inl left ↦ inl left
      | inr rose ↦ inr (omega (arith, one.later, rose))
    ]
    | inr rose ↦ inr (omega (arith, rose, two.later))
  ];
  once = λ kept. one.once (two.once kept);
  first = λ kept. along_joined goes a.first b.first c.first (one.first (two.once kept))
      (two.first kept);
}

-- What each call of a keeper that opens its store again preserves.
abbrev pub gives_up_at_fault : {V : Type 0} → (V → KeeperSeen) → Preorder V
    → Preorder (ReopenSeen V)
gives_up_at_fault seen goes = record {
  holds = GivesUpAtFault seen goes.holds;
  same = gives_up_same seen goes;
  joined = gives_up_joined seen goes;
}
