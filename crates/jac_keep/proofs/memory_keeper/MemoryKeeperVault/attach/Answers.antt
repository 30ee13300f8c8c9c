use Rattle.std.proofs.Common.{rules, ◌≡◌, inl, inr, None, Some, false, ◌∙◌, ap, subst, option_copied, length}
use Rattle.jac_keep.specs.KeeperState.{KeeperState, IsStored}
use Rattle.jac_keep.specs.Schema.{empties}
use Rattle.jac_keep.proofs.SchemaLaws.{attaches_ok, new_sound}
use Rattle.jac_keep.proofs.memory_keeper.MemoryKeeperVault.attach.Goals as goal

pub made_for-requires : goal.made_for-requires
made_for-requires c = c.requires.schema

pub begin-requires : goal.begin-requires
begin-requires c =
    let tables : c.in-Some.made.tables ≡ empties (length c.requires.schema.0) = search rules in
    new_sound c.args.schema.now c.requires.schema.0 c.self.inside.state c.in-Some.made.tables c.self.invariant.sound.next tables

pub returns-in-Some-clause-attaches : goal.returns-in-Some-clause-attaches
returns-in-Some-clause-attaches c =
    let old = c.args.self.now in
    let kinds = c.requires.schema.0 in
    let called : c.self.inside.called ≡ false = ap (λ (k : KeeperState). k.store.called) c.self.view_is ∙ c.requires.first in
    let held : IsStored old.store.schema old.state =
    subst (λ (k : KeeperState). IsStored k.store.schema k.state) c.self.view_is (c.self.invariant.stored called) in
    let none : old.store.schema ≡ None = search rules in
    attaches_ok old c.begin.new.self (option_copied c.args.name) c.args.schema.now kinds c.requires.schema.1 held (inl none) (search rules)

pub returns-in-None-clause-attaches : goal.returns-in-None-clause-attaches
returns-in-None-clause-attaches c =
    let old = c.args.self.now in
    let kinds = c.requires.schema.0 in
    let called : c.self.inside.called ≡ false = ap (λ (k : KeeperState). k.store.called) c.self.view_is ∙ c.requires.first in
    let held : IsStored old.store.schema old.state =
    subst (λ (k : KeeperState). IsStored k.store.schema k.state) c.self.view_is (c.self.invariant.stored called) in
    let same : old.store.schema ≡ Some c.args.schema.now = search rules in
    attaches_ok old c.reopen.new.self (option_copied c.args.name) c.args.schema.now kinds c.requires.schema.1 held (inr same) (search rules)
