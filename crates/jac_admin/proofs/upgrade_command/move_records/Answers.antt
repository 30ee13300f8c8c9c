use Rattle.jac_lang.specs.Mirror.{application_of}
use Rattle.jac_admin.proofs.UpgradeLemmas.{reshape_fits, upgraded_if_done}
use Rattle.jac_admin.proofs.upgrade_command.move_records.Goals as goal

pub reshape-requires-clause-schema : goal.reshape-requires-clause-schema
reshape-requires-clause-schema g c =
    let K = g.K.Keeper in
    reshape_fits (application_of c.args.old.now) (application_of c.args.new.now) (K.seen c.args.vault.now)
    (K.seen c.upgrade.new.keeper) c.in_ok-change.change c.in_ok-schema.schema c.in_ok-change.ensures.left
    c.in_ok-schema.ensures.text c.in_ok-schema.ensures.schema (rw c.app-2.ensures.app at c.in_ok-change.ensures.fit)

pub returns-clause-upgraded : goal.returns-clause-upgraded
returns-clause-upgraded g c =
    let K = g.K.Keeper in
    rw c.as_slice-count.ensures.items
    (upgraded_if_done (application_of c.args.old.now) (application_of c.args.new.now) (K.seen c.args.vault.now)
    (K.seen c.upgrade.new.keeper) c.in_ok-change.change c.in_ok-schema.schema c.in_ok-change.ensures.left
    c.in_ok-schema.ensures.text c.in_ok-schema.ensures.schema (rw c.app-2.ensures.app at c.in_ok-change.ensures.fit)
    (K.seen c.reshape.new.self) c.in_ok-reshape.ensures.reshapes c.in_ok-change.ensures.names
    (rw (c.app.ensures.app, c.app-2.ensures.app) at c.in_ok-change.ensures.shows))
