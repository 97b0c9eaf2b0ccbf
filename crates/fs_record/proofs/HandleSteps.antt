-- Steps of the loops over handles.
use Rattle.std.proofs.Common.{◌≡◌, ℕ, ◌+◌, ◌<◌, List, ◌∷◌, length, get_or, drop, cond}
use Rattle.std.specs.Prelude.{◌==◌}
use Rattle.std.proofs.lemmas.List.{drop_more}
use Rattle.fs_ident.specs.declared.actor.Session.{Session}
use Rattle.fs_modes.specs.declared.modes.Modes.{Modes}
use Rattle.fs_modes.specs.Modes.{or}
use Rattle.fs_model.specs.declared.node.Handle.{Handle}
use Rattle.fs_record.specs.ValueOf.{own_of, selves_from}

pub own_step : (s : Session) (xs : List Handle) (i : ℕ) (d : Handle) → i < length xs → own_of s (drop i xs) ≡ cond ((get_or xs i d).session.0 == s.0) (((get_or xs i d).h, (get_or xs i d).modes) ∷ own_of s (drop (i + 1) xs)) (own_of s (drop (i + 1) xs))
own_step s xs i d lt = rw (drop_more xs i d lt)

pub selves_step : (s : Session) (m : Modes) (xs : List Handle) (i : ℕ) (d : Handle) → i < length xs → selves_from s m (drop i xs) ≡ cond ((get_or xs i d).session.0 == s.0) (selves_from s (or m (get_or xs i d).modes) (drop (i + 1) xs)) ((s, m) ∷ selves_from (get_or xs i d).session (get_or xs i d).modes (drop (i + 1) xs))
selves_step s m xs i d lt = rw (drop_more xs i d lt)
