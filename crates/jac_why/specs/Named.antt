-- How `why` writes a label: as the model of its record, and its group.
use Rattle.std.specs.Prelude.{ℕ, Bool, ◌&&◌, ◌==◌}
use Rattle.jac_value.specs.Ids.{model_of_id, record_of_label, group_of_label}
use Rattle.jac_why.specs.declared.reasons.Reason.{Reason}

-- The label, with the model of its record and its group.
abbrev pub as_reason : ℕ → Reason
as_reason k = record {
  label = k;
  model = model_of_id (record_of_label k);
  group = group_of_label k;
}

-- The model and the group are those of the label.
abbrev pub names_its_label : Reason → Bool
names_its_label r =
    r.model == model_of_id (record_of_label r.label) && r.group == group_of_label r.label
