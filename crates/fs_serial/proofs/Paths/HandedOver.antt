-- What a server hands over is on none of its paths: a move that is made leaves path leases alone, and so does one that is refused for
-- another cause than paths.
use Rattle.std.proofs.Common.{◌≡◌, ◌∙◌, ◌==◌, ℕ, Bool, false, not, List, refl, sym, ap, subst, cond, inl, inr}
use Rattle.std.specs.Prelude.{Option, Some, None, is_some, slice_get}
use Rattle.std.specs.FinMap.{get}
use Rattle.fs_ident.specs.In.{In}
use Rattle.fs_ident.specs.Ordered.{Keyed}
use Rattle.fs_ident.specs.declared.actor.PathNo.{PathNo}
use Rattle.fs_ident.specs.declared.actor.TxnNo.{TxnNo}
use Rattle.fs_ident.proofs.Options.{cond_none}
use Rattle.fs_ident.proofs.Standing.{none_any}
use Rattle.fs_map.specs.Lists.{piece_of}
use Rattle.fs_map.specs.Map.{gives, is_given, server_of}
use Rattle.fs_map.proofs.Owned.{piece_piece}
use Rattle.fs_msg.specs.declared.server_note.ServerNote.{ServerNote}
use Rattle.fs_parcel.specs.Parcel.{busy_or, paths_out}
use Rattle.fs_parcel.proofs.Refused.{is_mine}
use Rattle.fs_path.specs.Leases.{PathLease}
use Rattle.fs_path.specs.Tables.{first_in}
use Rattle.fs_path.proofs.LeaseLaws.{none_into}
use Rattle.fs_record.specs.declared.record.Record.{Record}
use Rattle.fs_record.proofs.Parting.{left_at}
use Rattle.fs_rows.specs.Moving.{locked_in}
use Rattle.fs_server.specs.Moves.{hands_over, without_given}
use Rattle.fs_server.specs.PathSteps.{dir_here}
use Rattle.fs_server.specs.Server.{only_noted}
use Rattle.fs_server.specs.declared.event.ServerEvent.{ServerEvent}
use Rattle.fs_server.specs.declared.event.ServerEvent.TheVariants.{Move}
use Rattle.fs_server.specs.declared.state.Server.{Server}
use Rattle.fs_serial.specs.Cluster.{Cluster, InFlight, after_step}
use Rattle.fs_serial.specs.Paths.{LeavesPaths, SaysPath, has_path, has_record}
use Rattle.fs_serial.specs.Places.{PlacesHold}
use Rattle.fs_serial.proofs.Moves.Leaving.{leaving_keeps}
use Rattle.fs_serial.proofs.Moves.PathSteps.{refusal_here}
use Rattle.fs_serial.proofs.Paths.SameSpace.{IsPathStep, same_space}
use Rattle.fs_serial.proofs.Paths.Tokens.{nothing_made}

-- ## No path goes into it

-- a move that is not refused has no path in its way
no_path_out : (o : Option TxnNo) (through : Option PathNo) → busy_or o (paths_out through) ≡ None → through ≡ None
no_path_out None None e = refl
no_path_out None (Some number) e = absurd (cc e)
no_path_out (Some txn) through e = absurd (cc e)

none_in : (prefix : List ℕ) (to : ℕ) (s : Server) → refusal_here prefix to s ≡ None → first_in s.map s.me prefix s.paths ≡ None
none_in prefix to s may =
    let mine = cond_none (not (server_of s.map prefix == s.me)) _ _ may in
    let lives = cond_none (not (is_some (get s.records prefix))) _ _ mine.1 in
    let other = cond_none (to == s.me) _ _ lives.1 in
    no_path_out (locked_in prefix s.map s.me s.rows) (first_in s.map s.me prefix s.paths) other.1

none_over : (prefix : List ℕ) (s : Server) → first_in s.map s.me prefix s.paths ≡ None → (l : PathLease) → In l s.paths.issued → (f : List ℕ)
    → In f l.path → is_given s.map s.me prefix f ≡ false
none_over prefix s none l i f m =
    none_any (is_given s.map s.me prefix) l.path ((none_into s.map s.me prefix s.paths none).0 l i) f m

-- ## A move that is made

module _ (c : Cluster) (k to : ℕ) (s : Server) (prefix : List ℕ) (places : PlacesHold c) (at : slice_get c.servers k ≡ Some s)
    (may : refusal_here prefix to s ≡ None) where
  abbrev given : Keyed Bool
  given = piece_of s.map s.me prefix

  abbrev later : Cluster
  later = after_step k (Move prefix to) (hands_over prefix to s) c

  abbrev BringsNone : InFlight → Type 0
  BringsNone f = SaysPath later f.from f.to f.message × ((number : PathNo) → has_path number f.message ≡ false)

  -- the files of its paths stay
  path_stays : (l : PathLease) (f : List ℕ) → In l s.paths.issued → In f l.path → has_record (without_given prefix to s) f ≡ has_record s f
  path_stays l f i m =
      let mine : server_of s.map prefix ≡ s.me = is_mine s.records s.rows s.map s.me prefix to (first_in s.map s.me prefix s.paths) may in
      let gives_not : gives prefix given f ≡ false =
      (piece_piece s.map s.me prefix mine).1 f ∙ none_over prefix s (none_in prefix to s may) l i f m in
      ap (λ (o : Option Record). is_some o) (left_at prefix given s.records f ∙ ap (λ b. cond (not b) (get s.records f) None) gives_not)

  pub move_leaves : LeavesPaths k (Move prefix to) s (hands_over prefix to s) c later
  move_leaves = record {
    me = refl;
    issued = refl;
    held = refl;
    kept = λ f is. inl is;
    given = refl;
    sent = λ f i. elim i as (λ _. BringsNone f) [ inl e ↦ subst BringsNone (sym e) (tt, λ number. refl) | inr none ↦ absurd none ];
    taken = λ number. refl;
    journal = nothing_made c later refl;
    up = λ f on. ap (λ m. dir_here m f) (leaving_keeps k c s prefix to at places).1;
    here = path_stays;
  }

-- ## One that is refused

pub stay_leaves : (c : Cluster) (k to : ℕ) (s : Server) (prefix : List ℕ) (n : ServerNote) → slice_get c.servers k ≡ Some s
    → LeavesPaths k (Move prefix to) s (only_noted n s) c (after_step k (Move prefix to) (only_noted n s) c)
stay_leaves c k to s prefix n at =
    let e : ServerEvent = Move prefix to in
    let step : IsPathStep s (only_noted n s) = record { records = refl; admitted = refl; sent = tt } in
    let space = same_space c k e s (only_noted n s) at (record { parcels = refl; effects = refl }) step in
    record {
      me = refl;
      issued = refl;
      held = refl;
      kept = λ f is. inl is;
      given = refl;
      sent = λ f i. absurd i;
      taken = λ number. refl;
      journal = nothing_made c (after_step k e (only_noted n s) c) refl;
      up = λ f on. ap (λ m. dir_here m f) space;
      here = λ l f i m. refl;
    }
