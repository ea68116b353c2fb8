-- An expression with other comments.
use Rattle.bz_value.specs.declared.value.Expr.{Expr, Token, Form'}
use Rattle.bz_value.specs.Comments.{HostComments}

abbrev pub with_comments : Expr → HostComments → Expr
with_comments (Token t) comments = Token (record t { comments = comments })
with_comments (Form' kind s parts s' items end split open_break _) comments = Form' kind s parts s' items end split open_break comments
