-- The text of a reply and of its audit line.
use Rattle.std.specs.Prelude.{ℕ, if◌then◌else◌, Option, Some, None, List, [], ◌∷◌, ◌++◌, codes, decimal}
use Rattle.std.specs.Str.{bytes_eq}
use Rattle.jac_value.specs.Quoted.{quoted_bytes}
use Rattle.jac_replies.specs.declared.reply.Spelling.{Spelling}
use Rattle.jac_replies.specs.declared.reply.Spelling.TheVariants as spellings

-- The body of a reply to HEAD isn't printed.
abbrev pub printed_body : List ℕ → List ℕ → List ℕ
printed_body method body = if bytes_eq method (codes "HEAD") then [] else body

abbrev pub location_text : Option (List ℕ) → List ℕ
location_text None = []
location_text (Some location) = location

-- `reply STATUS "LOCATION" "BODY"`, the reply to a request of this method.
abbrev pub reply_text : List ℕ → ℕ → Option (List ℕ) → List ℕ → List ℕ
reply_text method status location body =
    codes "reply " ++ decimal status ++ codes " " ++ quoted_bytes (location_text location)
    ++ codes " " ++ quoted_bytes (printed_body method body) ++ 10 ∷ []

-- `sent N "BYTES"`, the reply on the connection with this number.
abbrev pub sent_text : ℕ → List ℕ → List ℕ
sent_text c bytes = codes "sent " ++ decimal c ++ codes " " ++ quoted_bytes bytes ++ 10 ∷ []

-- Bytes on a connection, as a line of text or as they are.
abbrev pub spelled_bytes : Spelling → ℕ → List ℕ → List ℕ
spelled_bytes spellings.Quoted c bytes = sent_text c bytes
spelled_bytes spellings.Raw c bytes = bytes

abbrev pub closed_text : ℕ → List ℕ
closed_text c = codes "closed " ++ decimal c ++ 10 ∷ []

abbrev pub viewer_text : Option ℕ → List ℕ
viewer_text None = codes "-"
viewer_text (Some id) = decimal id

-- Each label after a comma.
abbrev pub more_labels : List ℕ → List ℕ
more_labels [] = []
more_labels (k ∷ ks) = 44 ∷ (decimal k ++ more_labels ks)

-- The labels, joined by commas, or `-` if there are none.
abbrev pub labels_text : List ℕ → List ℕ
labels_text [] = codes "-"
labels_text (k ∷ ks) = decimal k ++ more_labels ks

abbrev pub shown_text : Option (List ℕ) → List ℕ
shown_text None = codes "nopage"
shown_text (Some labels) = labels_text labels

-- ` of CONSULTED`, if only the labels were resolved that the page consulted.
abbrev pub consulted_text : Option (List ℕ) → List ℕ
consulted_text None = []
consulted_text (Some labels) = codes " of " ++ labels_text labels

-- ` STATUS VIEWER SHOWN` and what was consulted, which follow the number of a reply.
abbrev pub audit_rest : ℕ → Option ℕ → Option (List ℕ) → Option (List ℕ) → List ℕ
audit_rest status viewer shown consulted =
    codes " " ++ decimal status ++ codes " " ++ viewer_text viewer ++ codes " " ++ shown_text shown
    ++ consulted_text consulted ++ 10 ∷ []

-- `K STATUS VIEWER SHOWN`, or `K STATUS VIEWER SHOWN of CONSULTED`, for the k-th reply.
abbrev pub audit_text : ℕ → ℕ → Option ℕ → Option (List ℕ) → Option (List ℕ) → List ℕ
audit_text k status viewer shown consulted = decimal k ++ audit_rest status viewer shown consulted
