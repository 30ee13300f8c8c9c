-- The requests that `jac demo` makes, one on each line.
use Rattle.std.specs.Prelude.{ℕ, zero, suc, List, [], ◌++◌, ◌+◌, ◌*◌, ◌%◌, ◌==◌, nat_le, if◌then◌else◌, codes, decimal}

-- The i-th user joins.
abbrev pub join_line : ℕ → List ℕ
join_line i = codes "ask - POST \"/join\" \"name=u" ++ (decimal i ++ codes "\"\n")

-- The viewer of the i-th request: the first three users in turn, by id.
abbrev pub viewer_number : ℕ → ℕ
viewer_number i = 4096 * (i % 3 + 1)

-- Every fifth event is open.
abbrev pub open_digit : ℕ → ℕ
open_digit i = if i % 5 == 0 then 1 else 0

-- Adds an event, which is named after the number of its request.
abbrev pub add_line : ℕ → List ℕ
add_line i =
    codes "ask " ++ (decimal (viewer_number i) ++ (codes " POST \"/add\" \"title=t"
    ++ (decimal i ++ (codes "&open=" ++ (decimal (open_digit i) ++ codes "\"\n")))))

-- Lists all events.
abbrev pub list_line : ℕ → List ℕ
list_line i = codes "ask " ++ (decimal (viewer_number i) ++ codes " GET \"/list\" \"\"\n")

-- The i-th request. Three users join first. Then every fourth request lists the events, and the
-- others add one.
unfoldable pub demo_line : ℕ → List ℕ
demo_line i = if nat_le i 3 then join_line i else if i % 4 == 0 then list_line i else add_line i

-- This many lines, from the i-th on.
abbrev pub lines_from : ℕ → ℕ → List ℕ
lines_from i zero = []
lines_from i (suc count) = demo_line i ++ lines_from (i + 1) count

-- The first n lines.
abbrev pub demo_text : ℕ → List ℕ
demo_text n = lines_from 1 n
