-- What is done to comments, in the steps in which it is.
use denote.Ref.{Bor}
use Rattle.std.specs.Prelude.{Bool, false, List, [], ◌∷◌, ◌++◌, Result, Ok, Err}
use Rattle.bz_comment.specs.Words.{Expr, HostComments, no_comments, Bytes, Host, Selects, Refusal, Arguments, is_attribute, is_item}
use Rattle.bz_command_syntax.specs.declared.command.Selects.TheVariants.{Skipped}
use Rattle.bz_command_syntax.specs.declared.command.Host.TheVariants as h
use Rattle.bz_comment.specs.declared.changing.Change.{Change}
use Rattle.bz_comment.specs.declared.changing.Change.TheVariants.{Add, Remove}
use Rattle.bz_comment.specs.declared.hosts.Sought.{Sought}
use Rattle.bz_comment.specs.Hosts.{comment_made, with_comment, without_comments, printed_comments, comment, remove_comment}

-- the change of an expression
abbrev pub changed_by : Change → Expr → Expr
changed_by (Add text) x = with_comment text.now x
changed_by Remove x = without_comments x

-- and of its comments
abbrev pub comments_made : Change → HostComments → HostComments
comments_made (Add text) comments = record { before = comments.before ++ comment_made text.now ∷ []; suffix = comments.suffix }
comments_made Remove comments = no_comments

-- `comment`, or `remove_comment`
abbrev pub changed_comments : Change → Bytes → Host → List Expr → Arguments
changed_comments (Add text) current host arguments = comment current host text.now arguments
changed_comments Remove current host arguments = remove_comment current host arguments

-- ---- hosts

-- whether an argument, or an item of an attribute's lists, is the host
abbrev pub is_host : Bytes → Host → Expr → Bool
is_host current h.Rule = λ x. false
is_host current (h.Attribute name) = is_attribute name
is_host current (h.Item name word selects) = is_item current name word

-- whether the branches of a `select` are looked at for it
abbrev pub selects_of : Host → Selects
selects_of (h.Item name word selects) = selects
selects_of _ = Skipped

abbrev pub is_sought : Sought → Expr → Bool
is_sought sought = is_host sought.current.now sought.host.now

-- the comments of a host as they are printed, or why there are none
abbrev pub printed_as : Result (Bor HostComments) Refusal → Result Bytes Refusal
printed_as (Ok comments) = Ok (printed_comments comments.now)
printed_as (Err refusal) = Err refusal
