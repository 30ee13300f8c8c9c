-- The numbers that name records and labels.
use Rattle.std.specs.Prelude.{ℕ, ◌+◌, ◌*◌, ◌/◌, ◌%◌, ◌^◌, zero, suc, List, [], ◌∷◌, ◌++◌, Bool, ◌&&◌, ◌||◌, ◌==◌, nat_lt, nat_le}

-- The id of a record that a statement creates outside of a loop: `n` is the number of the accepted
-- request, `s` the place of the statement in its view, `m` the model.
abbrev pub record_id : ℕ → ℕ → ℕ → ℕ
record_id n s m = (n * 64 + s) * 64 + m

-- The model of a record.
abbrev pub model_of_id : ℕ → ℕ
model_of_id id = id % 64

-- The number of the request that made the record.
abbrev pub number_of_id : ℕ → ℕ
number_of_id id = id % 2 ^ 52 / 4096

-- Whether the id is that of a record made outside of a loop.
abbrev pub is_narrow : ℕ → Bool
is_narrow id = nat_le 4096 id && nat_lt id (2 ^ 52)

-- The id of a record that is made in a loop: `l` is the id of the loop's record, `b` what
-- `record_id` gives.
abbrev pub loop_id : ℕ → ℕ → ℕ
loop_id l b = l * 2 ^ 52 + b

abbrev pub is_wide : ℕ → Bool
is_wide id = is_narrow (id / 2 ^ 52) && is_narrow (id % 2 ^ 52)

-- The label that guards a group of fields of the record.
abbrev pub label_of : ℕ → ℕ → ℕ
label_of id group = id * 8 + group

-- The record of a label. Below: its group.
abbrev pub record_of_label : ℕ → ℕ
record_of_label label = label / 8

abbrev pub group_of_label : ℕ → ℕ
group_of_label label = label % 8

-- Whether the number is an id of the model.
abbrev pub is_id_of : ℕ → ℕ → Bool
is_id_of number model = (is_narrow number || is_wide number) && model_of_id number == model

-- The labels of the record's first `n` groups.
abbrev pub labels_below : ℕ → ℕ → List ℕ
labels_below id zero = []
labels_below id (suc n) = labels_below id n ++ label_of id n ∷ []
