-- Renewals and releases, pair by pair.
use Rattle.std.specs.Prelude.{ℕ, List, [], ◌∷◌, length, map, not, filter, Option, Some, None, if◌then◌else◌}
use Rattle.std.specs.List.{list_any}
use Rattle.fs_ident.specs.declared.actor.LeaseNo.{LeaseNo}
use Rattle.fs_ident.specs.declared.actor.Session.{Session}
use Rattle.fs_field.specs.declared.row.Row.{Row}
use Rattle.fs_field.specs.Table.{has_no, renewed_row}
use Rattle.fs_msg.specs.declared.answer.Answer.TheVariants as reply
use Rattle.fs_msg.specs.declared.end.End.{End}
use Rattle.fs_msg.specs.declared.end.End.TheVariants as end
use Rattle.fs_msg.specs.declared.server_note.ServerNote.TheVariants as note
use Rattle.fs_server.specs.declared.state.Server.{Server}
use Rattle.fs_server.specs.Server.{Stepped, end_of, is_mine, moved, to_session}

-- the pairs up to the first whose file is with another server
abbrev pub pairs_here : Server → List (List ℕ × LeaseNo) → List (List ℕ × LeaseNo)
pairs_here s [] = []
pairs_here s (p ∷ ps) = if is_mine s p.0 then p ∷ pairs_here s ps else []

-- and why no more
abbrev pub pairs_end : Server → List (List ℕ × LeaseNo) → End
pairs_end s [] = end.All
pairs_end s (p ∷ ps) = if is_mine s p.0 then pairs_end s ps else moved s p.0

-- the numbers of the pairs
abbrev pub numbers_in : List (List ℕ × LeaseNo) → List LeaseNo
numbers_in pairs = map (λ (p : List ℕ × LeaseNo). p.1) pairs

-- a row that is there ends no sooner than a lease that is given now; of one that is not, no end is told
abbrev pub renewed_rows : ℕ → List LeaseNo → List Row → List Row
renewed_rows until [] rows = rows
renewed_rows until (n ∷ ns) rows = renewed_rows until ns (map (renewed_row n until) rows)

abbrev pub end_told : ℕ → LeaseNo → List Row → LeaseNo × Option ℕ
end_told until number rows = (number, if list_any (has_no number) rows then Some until else None)

-- no renewal changes which rows there are
abbrev pub ends_told : ℕ → List LeaseNo → List Row → List (LeaseNo × Option ℕ)
ends_told until numbers rows = map (λ n. end_told until n rows) numbers

abbrev pub renewed_here : Session → List LeaseNo → End → Server → Stepped
renewed_here by numbers e s = record {
  server = record s { rows = renewed_rows (end_of s) numbers s.rows };
  out = record {
    note = note.Renews (length numbers) e;
    send = to_session by (reply.Renewed (ends_told (end_of s) numbers s.rows) e) ∷ [];
    admitted = [];
  };
}

abbrev pub renew_step : Session → List (List ℕ × LeaseNo) → Server → Stepped
renew_step by pairs s = renewed_here by (numbers_in (pairs_here s pairs)) (pairs_end s pairs) s

-- a row that is not there counts as dropped
abbrev pub released_rows : List LeaseNo → List Row → List Row
released_rows [] rows = rows
released_rows (n ∷ ns) rows = released_rows ns (filter (λ r. not (has_no n r)) rows)

abbrev pub released_here : Session → List LeaseNo → End → Server → Stepped
released_here by numbers e s = record {
  server = record s { rows = released_rows numbers s.rows };
  out = record {
    note = note.Frees (length numbers) e;
    send = to_session by (reply.Released (length numbers) e) ∷ [];
    admitted = [];
  };
}

abbrev pub release_step : Session → List (List ℕ × LeaseNo) → Server → Stepped
release_step by pairs s = released_here by (numbers_in (pairs_here s pairs)) (pairs_end s pairs) s
