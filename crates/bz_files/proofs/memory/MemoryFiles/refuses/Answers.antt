use Rattle.bz_files.proofs.Words.{◌∙◌, ◌≡◌, bytes_eq, list_any, map, string_bytes, sym}
use Rattle.bz_files.proofs.Fronts.{any_map}
use Rattle.bz_files.proofs.memory.MemoryFiles.refuses.Goals as goal

pub returns : goal.returns
returns c =
    let items = c.args.self.now.unreadable.items in
    let is : c.is_unreadable.result ≡ list_any (λ other. bytes_eq other c.args.name.now) (map string_bytes items) =
    c.is_unreadable.ensures ∙ sym (any_map string_bytes (λ other. bytes_eq other c.args.name.now) items) in
    (λ refused. sym is ∙ refused, λ refused. is ∙ refused)
