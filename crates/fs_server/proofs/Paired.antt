-- The rows after renewals and releases.
use Rattle.std.proofs.Common.{ℕ, not, List, [], ◌∷◌, map}
use Rattle.std.specs.List.{filter}
use Rattle.fs_ident.specs.declared.actor.LeaseNo.{LeaseNo}
use Rattle.fs_field.specs.declared.row.Row.{Row}
use Rattle.fs_field.specs.Table.{has_no, renewed_row}
use Rattle.fs_rows.specs.Given.{AreGiven}
use Rattle.fs_rows.proofs.Numbers.{given_filter, given_renewed}
use Rattle.fs_server.specs.declared.change.Change.TheVariants.{Renew, Free}
use Rattle.fs_server.specs.declared.state.Server.{Server}
use Rattle.fs_server.specs.Grants.{IsReady}
use Rattle.fs_server.specs.Pairs.{renewed_rows, released_rows}
use Rattle.fs_server.specs.Plan.{changed}
use Rattle.fs_server.specs.Rows.{AreRows}
use Rattle.fs_parcel.proofs.Both.{filtered_rows}
use Rattle.fs_server.proofs.Kept.{renewed_in_order, with_others}

all_renewed : (until : ℕ) (numbers : List LeaseNo) (rows : List Row) → AreRows rows → AreRows (renewed_rows until numbers rows)
all_renewed until [] rows t = t
all_renewed until (n ∷ ns) rows t = all_renewed until ns (map (renewed_row n until) rows) (renewed_in_order n until rows t)

renewed_given : (me given until : ℕ) (numbers : List LeaseNo) (rows : List Row) → AreGiven me given rows → AreGiven me given (renewed_rows until numbers rows)
renewed_given me given until [] rows h = h
renewed_given me given until (n ∷ ns) rows h = renewed_given me given until ns (map (renewed_row n until) rows) (given_renewed me given n until rows h)

pub renewed_ready : (until : ℕ) (numbers : List LeaseNo) (s : Server) → IsReady s → IsReady (changed (Renew until numbers) s)
renewed_ready until numbers s r = with_others s (renewed_rows until numbers s.rows) s.records s.map r (renewed_given s.me s.given until numbers s.rows r.server.numbers) (all_renewed until numbers s.rows r.table)

all_released : (numbers : List LeaseNo) (rows : List Row) → AreRows rows → AreRows (released_rows numbers rows)
all_released [] rows t = t
all_released (n ∷ ns) rows t = all_released ns (filter (λ r. not (has_no n r)) rows) (filtered_rows (λ r. not (has_no n r)) rows t)

released_given : (me given : ℕ) (numbers : List LeaseNo) (rows : List Row) → AreGiven me given rows → AreGiven me given (released_rows numbers rows)
released_given me given [] rows h = h
released_given me given (n ∷ ns) rows h = released_given me given ns (filter (λ r. not (has_no n r)) rows) (given_filter me given (λ r. not (has_no n r)) rows h)

pub released_ready : (numbers : List LeaseNo) (s : Server) → IsReady s → IsReady (changed (Free numbers) s)
released_ready numbers s r = with_others s (released_rows numbers s.rows) s.records s.map r (released_given s.me s.given numbers s.rows r.server.numbers) (all_released numbers s.rows r.table)
