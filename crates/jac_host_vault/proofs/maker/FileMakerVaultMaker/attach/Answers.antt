use Rattle.std.proofs.Common.{◌≡◌, ◌∙◌}
use Rattle.jac_sqlkeep.specs.Kept.{untouched_keeper}
use Rattle.jac_host_vault.proofs.Found.{supposed_first}
use Rattle.jac_host_vault.proofs.Left.{only_file, file_left}
use Rattle.jac_host_vault.proofs.maker.FileMakerVaultMaker.attach.Goals as goal

pub returns-clause-attaches : goal.returns-clause-attaches
returns-clause-attaches g c =
    let from = c.new-file.ensures ∙ (λ i. untouched_keeper (c.first-opener.ensures.faults i) (c.first-opener.ensures.gave i)) in
    rw c.new.ensures
    (supposed_first _ _ c.attach-attached.new.self _ _ (rw from at c.attach-attached.ensures.attaches) c.attach-attached.ensures.found)

pub returns-clause-left : goal.returns-clause-left
returns-clause-left g c =
    let from = c.new-file.ensures ∙ (λ i. untouched_keeper (c.first-opener.ensures.faults i) (c.first-opener.ensures.gave i)) in
    rw c.new.ensures
    (file_left _ _ c.attach-attached.new.self c.attach-attached.result (rw from at c.attach-attached.ensures.left) (rw from at c.attach-attached.ensures.learns) c.attach-attached.ensures.other_stored
    (rw from at c.attach-attached.ensures.attaches).rose)

pub returns-clause-begins : goal.returns-clause-begins
returns-clause-begins g c =
    let from = c.new-file.ensures ∙ (λ i. untouched_keeper (c.first-opener.ensures.faults i) (c.first-opener.ensures.gave i)) in
    rw c.new.ensures
    (only_file _ _ _ c.attach-attached.new.self c.attach-attached.result (rw from at c.attach-attached.ensures.left) c.attach-attached.ensures.begins)
