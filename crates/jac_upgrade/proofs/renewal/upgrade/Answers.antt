use Rattle.std.proofs.Common.{refl, sym, subst}
use Rattle.jac_lang.specs.Mirror.{application_of}
use Rattle.jac_lang.proofs.Places.{length-entities}
use Rattle.jac_upgrade.specs.Steps.{AltersBelow}
use Rattle.jac_upgrade.proofs.Finished.{fits, models_within, names, shows}
use Rattle.jac_upgrade.proofs.renewal.upgrade.Goals as goal

pub all_changed-requires-clause-extends : goal.all_changed-requires-clause-extends
all_changed-requires-clause-extends g c = models_within c.args.old.now.models c.args.new.now.models c.requires.extends

pub returns-clause-names : goal.returns-clause-names
returns-clause-names g c told =
    let seen = g.K.Keeper.seen in
    let old = application_of c.args.old.now in
    let new = application_of c.args.new.now in
    let changed = c.in_ok-changed.changed in
    let middle = seen c.number.new.self in
    names old new (seen c.args.keeper.now) middle (seen c.all_changed.new.keeper) c.in_ok-number.number changed (record {
      first = c.in_ok-number.ensures.reads.left;
      second = c.in_ok-changed.ensures.left;
      exact = c.in_ok-number.ensures.exact;
      well = c.requires.well;
      extends = c.requires.extends;
      fit = c.requires.fit;
      apart = c.in_ok-changed.ensures.apart;
      all = λ tells. subst (λ n. AltersBelow old.models new.models middle.state n changed) (sym (length-entities c.args.old.now.models)) (c.in_ok-changed.ensures.all tells);
    }) told

pub returns-clause-shows : goal.returns-clause-shows
returns-clause-shows g c told =
    let seen = g.K.Keeper.seen in
    let old = application_of c.args.old.now in
    let new = application_of c.args.new.now in
    let changed = c.in_ok-changed.changed in
    let middle = seen c.number.new.self in
    shows old new (seen c.args.keeper.now) middle (seen c.all_changed.new.keeper) c.in_ok-number.number changed (record { changed = changed; number = c.in_ok-number.number }) (record {
      first = c.in_ok-number.ensures.reads.left;
      second = c.in_ok-changed.ensures.left;
      exact = c.in_ok-number.ensures.exact;
      well = c.requires.well;
      extends = c.requires.extends;
      fit = c.requires.fit;
      apart = c.in_ok-changed.ensures.apart;
      all = λ tells. subst (λ n. AltersBelow old.models new.models middle.state n changed) (sym (length-entities c.args.old.now.models)) (c.in_ok-changed.ensures.all tells);
    }) told refl

pub returns-clause-fit : goal.returns-clause-fit
returns-clause-fit g c told =
    let seen = g.K.Keeper.seen in
    let old = application_of c.args.old.now in
    let new = application_of c.args.new.now in
    let changed = c.in_ok-changed.changed in
    let middle = seen c.number.new.self in
    fits old new (seen c.args.keeper.now) middle (seen c.all_changed.new.keeper) c.in_ok-number.number changed (record { changed = changed; number = c.in_ok-number.number }) (record {
      first = c.in_ok-number.ensures.reads.left;
      second = c.in_ok-changed.ensures.left;
      exact = c.in_ok-number.ensures.exact;
      well = c.requires.well;
      extends = c.requires.extends;
      fit = c.requires.fit;
      apart = c.in_ok-changed.ensures.apart;
      all = λ tells. subst (λ n. AltersBelow old.models new.models middle.state n changed) (sym (length-entities c.args.old.now.models)) (c.in_ok-changed.ensures.all tells);
    }) told refl
