use Rattle.std.proofs.Common.{◌∙◌, ap, refl}
use Rattle.jac_keep.specs.WorkState.{state_of}
use Rattle.jac_shown_rows.specs.Seen.{seen_at}
use Rattle.jac_shown_rows.specs.Own.{reads_own, table_at}
use Rattle.jac_shown_rows.proofs.reading.get.Goals as goal

pub returns-in_ok-read-in-Some-clause-value : goal.returns-in_ok-read-in-Some-clause-value
returns-in_ok-read-in-Some-clause-value g c told w agree =
    c.in_ok-read-in-Some.ensures.value told w agree
    ∙ c.in-Some.ensures.got (seen_at c.args.at.now (state_of g.K.Keeper.seen c.args.work.now) w) refl c.args.value.now

pub returns-in-None-clause-value : goal.returns-in-None-clause-value
returns-in-None-clause-value g c told w agree =
    c.in-None.ensures.got (seen_at c.args.at.now (state_of g.K.Keeper.seen c.args.work.now) w) refl c.args.value.now

pub returns-in_ok-read-in-Some-clause-own : goal.returns-in_ok-read-in-Some-clause-own
returns-in_ok-read-in-Some-clause-own g c told this reads own =
    c.in_ok-read-in-Some.ensures.own told this
    (ap (λ place. reads_own this c.args.value.now (table_at (state_of g.K.Keeper.seen c.args.work.now).tables place)) c.in-Some.ensures.place ∙ reads) own
