use Rattle.bz_journal.proofs.Words.{◌++◌, ◌+◌, ◌-◌, ◌≡◌, ◌≤◌, action_in, IsSmall, length, List, map, Refusal, Reply, Result, Runs, session_history, session_trail, take, vec_capacity, vec_len}
use Rattle.bz_journal.proofs.session.Session.run.Given as goal

-- the replies so far are those of the actions so far, and there is room for the others
abbrev pub invariant-loop-action : goal.invariant-loop-action
invariant-loop-action l = record {
  added : List (Result Reply Refusal);
  replies : l.replies.items ≡ l.fn.replies.items ++ added;
  runs : Runs (session_history l.fn.self) (map action_in (take l.action-index l.actions)) added (session_history l.self);
  small : IsSmall (session_trail l.fn.self) → IsSmall (session_trail l.self);
  room : vec_len l.replies + (length l.actions - l.action-index) ≤ vec_capacity l.replies;
}
