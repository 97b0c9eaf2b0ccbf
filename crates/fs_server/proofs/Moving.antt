-- What goes to another server, and what comes from one.
use Rattle.std.proofs.Common.{◌≡◌, ◌==◌, not, ◌&&◌, ◌||◌, ℕ, ◌≤◌, true, List, [], ◌∷◌, refl, ap, sym, subst, ◌∙◌, inl, inr, arith}
use Rattle.std.specs.Prelude.{nat_le}
use Rattle.std.specs.List.{list_all}
use Rattle.std.proofs.lemmas.Bool.Decides.{nat_tests}
use Rattle.fs_ident.specs.declared.actor.LeaseNo.{LeaseNo}
use Rattle.fs_ident.specs.declared.actor.Peer.{Peer}
use Rattle.fs_ident.specs.declared.actor.Peer.TheVariants.{Server as OfServer}
use Rattle.fs_ident.proofs.Booleans.{both as both_hold}
use Rattle.fs_ident.proofs.Standing.{In-put}
use Rattle.fs_field.specs.Table.{no_before, with_row}
use Rattle.fs_field.specs.declared.row.Row.{Row}
use Rattle.fs_map.specs.Lists.{map_after_take}
use Rattle.fs_map.specs.Map.{IsPiece, Owners, server_of}
use Rattle.fs_map.specs.declared.piece.MapPiece.{MapPiece}
use Rattle.fs_map.proofs.Owned.{piece_piece}
use Rattle.fs_msg.specs.declared.item.Item.{Item}
use Rattle.fs_msg.specs.declared.msg.Msg.{Msg}
use Rattle.fs_msg.specs.declared.msg.Msg.TheVariants as msg
use Rattle.fs_msg.specs.declared.peer_msg.PeerMsg.TheVariants as peer
use Rattle.fs_msg.specs.declared.server_note.ServerNote.TheVariants as note
use Rattle.fs_ident.specs.Ident.{same}
use Rattle.fs_ident.specs.Ordered.{Keyed}
use Rattle.fs_record.specs.Moving.{records_given, records_left, with_records}
use Rattle.fs_record.specs.Records.{RecordMap}
use Rattle.fs_record.specs.declared.parcel.Parcel.{Parcel}
use Rattle.fs_record.specs.declared.record.Record.{Record}
use Rattle.fs_rows.specs.Given.{AreGiven}
use Rattle.fs_rows.specs.Granted.{with_rows}
use Rattle.fs_rows.specs.Moving.{is_on_given, rows_left}
use Rattle.fs_rows.proofs.Numbers.{given_filter}
use Rattle.fs_parcel.specs.Parcel.{fits, parcel_of}
use Rattle.fs_parcel.specs.Rows.{in_one_list}
use Rattle.fs_parcel.proofs.Both.{filtered_rows}
use Rattle.fs_parcel.proofs.Formed.{fitting}
use Rattle.fs_parcel.proofs.Installed.{all_rows}
use Rattle.fs_server.specs.declared.change.Change.TheVariants.{Leave, Install}
use Rattle.fs_server.specs.declared.state.Server.{Server}
use Rattle.fs_server.specs.Grants.{IsReady}
use Rattle.fs_server.specs.Moves.{fits_here, hands_over, was_given, without_given}
use Rattle.fs_server.specs.Plan.{changed}
use Rattle.fs_server.specs.Step.{AreNumbersLeft}
use Rattle.fs_server.proofs.Kept.{with_others}

-- ## A move

-- what is packed from what is read of the server
pub packed_here : (prefix : List ℕ) (records : RecordMap) (plain modes rows : List Row) (map : Owners) (me : ℕ) (p : Parcel) (s : Server) → records ≡ s.records → in_one_list plain modes ≡ rows → rows ≡ s.rows → map ≡ s.map → me ≡ s.me → p ≡ parcel_of records (in_one_list plain modes) map me prefix
    → p ≡ parcel_of s.records s.rows s.map s.me prefix
packed_here prefix records plain modes rows map me p s a b d e f g =
    g
    ∙ ap (λ x. parcel_of x (in_one_list plain modes) map me prefix) a
    ∙ ap (λ x. parcel_of s.records x map me prefix) (b ∙ d)
    ∙ ap (λ x. parcel_of s.records s.rows x me prefix) e
    ∙ ap (λ x. parcel_of s.records s.rows s.map x prefix) f

-- its piece is one
pub goes_piece : (prefix : List ℕ) (p : Parcel) (piece : MapPiece) (s : Server) → server_of s.map prefix ≡ s.me → p ≡ parcel_of s.records s.rows s.map s.me prefix → piece ≡ p.piece → IsPiece piece.prefix piece.given
goes_piece prefix p piece s mine e same = subst (λ (x : MapPiece). IsPiece x.prefix x.given) (sym (same ∙ ap (λ (x : Parcel). x.piece) e)) (piece_piece s.map s.me prefix mine).0

-- what goes is all that the server has below the prefix
pub handed_over : (prefix : List ℕ) (to : ℕ) (p : Parcel) (piece : MapPiece) (moved : Keyed Record) (s : Server) → p ≡ parcel_of s.records s.rows s.map s.me prefix → piece ≡ p.piece
    → changed (Leave to piece moved) s ≡ without_given prefix to s
handed_over prefix to p piece moved s parcel same =
    ap (λ x. changed (Leave to x moved) s) same
    ∙ ap (λ (x : Parcel). changed (Leave to x.piece moved) s) parcel

-- the records that leave are those of its piece
pub moved_over : (prefix : List ℕ) (p : Parcel) (piece : MapPiece) (moved : Keyed Record) (s : Server) → p ≡ parcel_of s.records s.rows s.map s.me prefix → piece ≡ p.piece → moved ≡ p.records
    → moved ≡ records_given piece.prefix piece.given s.records
moved_over prefix p piece moved s parcel same copied =
    copied
    ∙ ap (λ (x : Parcel). x.records) parcel
    ∙ sym (ap (λ (x : MapPiece). records_given x.prefix x.given s.records) (same ∙ ap (λ (x : Parcel). x.piece) parcel))

-- and it is told and sent
pub told_over : (prefix copy : List ℕ) (to : ℕ) (p : Parcel) (server : Server) (send : List (Peer × Msg)) (admitted : List Item) (s : Server) → server ≡ without_given prefix to s → copy ≡ prefix → send ≡ (OfServer to, msg.Peer (peer.Parcel p)) ∷ [] → p ≡ parcel_of s.records s.rows s.map s.me prefix → admitted ≡ []
    → hands_over prefix to s ≡ record { server = server; out = record { note = note.Moves copy to; send = send; admitted = admitted } }
told_over prefix copy to p server send admitted s a b d e f = rw (a, b, d, e, f) refl

-- what is left is a server, with rows in order
pub left_ready : (to : ℕ) (piece : MapPiece) (moved : Keyed Record) (s : Server) → IsReady s → IsReady (changed (Leave to piece moved) s)
left_ready to piece moved s r = with_others s (rows_left piece.prefix piece.given s.rows) (records_left piece.prefix piece.given s.records) (map_after_take s.map to piece.prefix piece.given) r
    (given_filter s.me s.given (λ row. not (is_on_given piece.prefix piece.given row)) s.rows r.server.numbers)
    (filtered_rows (λ row. not (is_on_given piece.prefix piece.given row)) s.rows r.table)

-- ## A parcel

at_most : (me given server count : ℕ) → (not (server == me) || (nat_le 1 count && nat_le count given)) ≡ true → server ≡ me → count ≤ given
at_most me given server count h e = grind (arith, nat_tests)

given_put : (me given : ℕ) (m : Row) (rows : List Row) → was_given me given m ≡ true → AreGiven me given rows → AreGiven me given (with_row m rows)
given_put me given m rows h k x i e =
    elim (In-put (λ r. no_before m.no r.no) x m rows i) [
      | inl q ↦
          let number : x.no ≡ m.no = ap (λ (r : Row). r.no) q in
          let bound : m.no.count ≤ given = at_most me given m.no.server m.no.count h (ap (λ (n : LeaseNo). n.server) (sym number) ∙ e) in
          let count : x.no.count ≡ m.no.count = ap (λ (n : LeaseNo). n.count) number in
          omega arith
      | inr j ↦ k x j e
    ]

-- each number of this server's that comes was given
given_come : (me given : ℕ) (more rows : List Row) → list_all (was_given me given) more ≡ true → AreGiven me given rows → AreGiven me given (with_rows more rows)
given_come me given [] rows h k = k
given_come me given (m ∷ ms) rows h k =
    let q = both_hold (was_given me given m) (list_all (was_given me given) ms) h in
    given_come me given ms (with_row m rows) q.1 (given_put me given m rows q.0 k)

fitted : (p : Parcel) (s : Server) → fits_here p s ≡ true → (fits s.records s.rows s.map s.me p ≡ true) × (list_all (was_given s.me s.given) p.rows ≡ true)
fitted p s h = both_hold (fits s.records s.rows s.map s.me p) (list_all (was_given s.me s.given) p.rows) h

-- where the parcel fits, what it leads to is a server, with rows in order
pub installed_ready : (p : Parcel) (s : Server) → fits_here p s ≡ true → IsReady s → IsReady (changed (Install p) s)
installed_ready p s h r =
    let q = fitted p s h in
    with_others s (with_rows p.rows s.rows) (with_records p.records s.records) (map_after_take s.map s.me p.prefix p.piece.given) r (given_come s.me s.given p.rows s.rows q.1 r.server.numbers) (all_rows s.records s.rows s.map s.me p (fitting s.records s.rows s.map s.me p q.0) r.table)

-- and it can be put in its place
pub installable : (p : Parcel) (s : Server) → fits_here p s ≡ true → AreNumbersLeft p.records → (fits s.records s.rows s.map s.me p ≡ true) × AreNumbersLeft p.records
installable p s h left =
    let q = fitted p s h in
    (q.0, left)
