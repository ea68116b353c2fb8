use Rattle.bz_command_syntax.proofs.Named.{unknown}
use Rattle.bz_command_syntax.proofs.table.read_named.Goals as goal

pub returns-in_default : goal.returns-in_default
returns-in_default c =
    let n = c.in_default in
    unknown c.args.name.now c.args.words.items (n.not-new, (n.not-delete, (n.not-set, (n.not-set_if_absent, (n.not-add, (n.not-remove, (n.not-remove_if_equal, (n.not-replace, (n.not-substitute, (n.not-move, (n.not-rename, (n.not-copy, (n.not-copy_no_overwrite, (n.not-dict_add, (n.not-dict_set, (n.not-dict_remove, (n.not-dict_replace_if_equal, (n.not-dict_list_add, (n.not-set_select, (n.not-new_load, (n.not-replace_load, (n.not-substitute_load, (n.not-use_repo_add, (n.not-use_repo_remove, (n.not-comment, (n.not-print_comment, (n.not-remove_comment, (n.not-fix, (n.not-print, tt)))))))))))))))))))))))))))))
