-- Laws of the commands on comments.
use Rattle.std.specs.Prelude.{◌≡◌, ◌≤◌, List, [], Ok, codes}
use Rattle.bz_comment.specs.Words.{Expr, HostComments, no_comments, total, amount, one_if, Bytes, comments_of, Host}
use Rattle.bz_comment.specs.Hosts.{with_comment, without_comments, comment, remove_comment, print_comment, comment_made, comment_line}

-- A comment that was put where nothing is printed, and is taken away again, leaves the arguments as they were.
abbrev pub CommentTakenAway : Type 0
CommentTakenAway =
    (current : Bytes) (host : Host) (text : Bytes) (own : HostComments) (arguments new : List Expr)
    → print_comment current host own arguments ≡ Ok [] → comment current host text arguments ≡ Ok new
    → remove_comment current host new ≡ Ok arguments

-- The same of a rule's own statement.
abbrev pub OwnCommentTakenAway : Type 0
OwnCommentTakenAway = (text : Bytes) (x : Expr) → comments_of x ≡ no_comments → without_comments (with_comment text x) ≡ x

-- `comment` leaves each comment at least as often as it occurred in the arguments, and in the statement.
abbrev pub CommentLosesNone : Type 0
CommentLosesNone =
    (current : Bytes) (host : Host) (text : Bytes) (arguments new : List Expr)
    → comment current host text arguments ≡ Ok new
    → (each : Bytes) → total (amount (one_if each)) arguments ≤ total (amount (one_if each)) new

abbrev pub OwnCommentLosesNone : Type 0
OwnCommentLosesNone = (text : Bytes) (x : Expr) (each : Bytes) → amount (one_if each) x ≤ amount (one_if each) (with_comment text x)

-- ---- worked rows: comments that are made of texts, and comments as they are printed

abbrev pub WorkedComments : Type 0
WorkedComments =
    (comment_made (codes "why not") ≡ codes "# why not")
    -- blanks at the end go
    × (comment_made (codes "a  ") ≡ codes "# a")
    × (comment_made (codes " ") ≡ codes "#")
    -- one space after the mark goes
    × (comment_line (codes "#x") ≡ codes "x\n")
    × (comment_line (codes "# x") ≡ codes "x\n")
    × (comment_line (codes "#  x") ≡ codes " x\n")
