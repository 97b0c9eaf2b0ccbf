-- What stops at a file that is with another server.
use Rattle.std.proofs.Common.{◌≡◌, ℕ, true, List, refl}
use Rattle.std.specs.Prelude.{Option, Some, None}
use Rattle.fs_map.specs.Map.{longest}
use Rattle.fs_msg.specs.declared.end.End.TheVariants as end
use Rattle.fs_msg.specs.declared.entry.Entry.{Entry}
use Rattle.fs_server.specs.Server.{moved, moved_at}
use Rattle.fs_server.specs.declared.state.Server.{Server}
use Rattle.fs_client.specs.Answers.{over_after, refusal_fits}

no_end : (o : Option (List ℕ × ℕ)) → moved_at o ≡ end.All → ⊥
no_end None e = cc
no_end (Some x) e = cc

-- so not all was done
pub not_all : (s : Server) (id : List ℕ) → moved s id ≡ end.All → ⊥
not_all s id e = no_end (longest s.map id) e

over_stays : (o : Option (List ℕ × ℕ)) (over : Option ℕ) → over_after (moved_at o) over ≡ over
over_stays None over = refl
over_stays (Some x) over = refl

-- but nothing was refused
pub over_still : (s : Server) (id : List ℕ) (over : Option ℕ) → over_after (moved s id) over ≡ over
over_still s id over = over_stays (longest s.map id) over

refuses_none : (o : Option (List ℕ × ℕ)) (count : ℕ) (sent : List Entry) → refusal_fits (moved_at o) count sent ≡ true
refuses_none None count sent = refl
refuses_none (Some x) count sent = refl

pub none_refused : (s : Server) (id : List ℕ) (count : ℕ) (sent : List Entry) → refusal_fits (moved s id) count sent ≡ true
none_refused s id count sent = refuses_none (longest s.map id) count sent
