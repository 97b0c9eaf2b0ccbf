-- How an operation ends that a session asks the server to lead.
use Rattle.std.proofs.Common.{◌≡◌, ◌==◌, ◌&&◌, ◌+◌, ◌<◌, ◌^◌, ℕ, Bool, true, false, not, List}
use Rattle.std.proofs.Common.{refl, ap, sym, ◌∙◌, cond, arith}
use mathlib.Core.Path.{fun_ext}
use Rattle.std.specs.Prelude.{Option, Some, None, nat_le, nat_lt}
use Rattle.std.specs.List.{find, list_any}
use Rattle.std.proofs.lemmas.Bool.Decides.{nat_tests}
use Rattle.fs_ident.proofs.Booleans.{first, second}
use Rattle.fs_ident.specs.declared.actor.Session.{Session}
use Rattle.fs_ident.specs.declared.actor.TxnNo.{TxnNo}
use Rattle.fs_field.specs.Field.{same_field, tells_no_mode}
use Rattle.fs_field.specs.Table.{has_no, is_lease, same_kind}
use Rattle.fs_field.specs.declared.path.PathAnswer.{PathAnswer}
use Rattle.fs_field.specs.declared.path.PathAnswer.TheVariants as path
use Rattle.fs_field.specs.declared.row.Row.{Row}
use Rattle.fs_field.specs.declared.used.Use.{Use}
use Rattle.fs_map.specs.Map.{longest}
use Rattle.fs_model.specs.Asking.{home_of}
use Rattle.fs_msg.specs.declared.core_error.Counter.{Counter}
use Rattle.fs_msg.specs.declared.core_error.Counter.TheVariants.{Leases, Reaps, Transactions}
use Rattle.fs_msg.specs.declared.lead.Lead.{Lead}
use Rattle.fs_record.specs.declared.led_end.Why.{Why}
use Rattle.fs_record.specs.declared.led_end.Why.TheVariants as why
use Rattle.fs_txn.specs.Numbers.{next_txn}
use Rattle.fs_txn.specs.Preparing as prepare
use Rattle.fs_txn.specs.Deciding.{has_file}
use Rattle.fs_txn.specs.declared.mode.Mode2.{Mode2}
use Rattle.fs_txn.specs.declared.mode.Mode2.TheVariants.{Check, Freeze}
use Rattle.fs_server.specs.Begins.{begins, txn_of}
use Rattle.fs_server.specs.Laws.{BeginsIn, StandsOver, over, without_path}
use Rattle.fs_server.specs.Leads.{is_led, lead_refusal, lead_step, leads_here, leads_over, leads_unless, mode_of, mode_over}
use Rattle.fs_server.specs.Leads.{moved_why, refuses, takes_path, wants_path}
use Rattle.fs_server.specs.PathsHere.{path_here}
use Rattle.fs_server.specs.Rows.{is_off_modes, rows_off_modes, rows_on_modes}
use Rattle.fs_server.specs.Server.{Stepped, is_mine, strange}
use Rattle.fs_server.specs.Ships.{first_gone, has_row}
use Rattle.fs_server.specs.declared.state.Server.{Server}
use Rattle.fs_server.proofs.Parts.{any_part, same_part}

-- ## Refusals

abbrev refusal_by : Server → Lead → Bool → Option Why
refusal_by s m mine = cond mine None (Some (moved_why (longest s.map (home_of m.op))))

-- it is to be asked elsewhere
pub refusal_is : (s : Server) (m : Lead) (w : Why) → lead_refusal s m ≡ Some w
    → (is_mine s (home_of m.op) ≡ false) × (w ≡ moved_why (longest s.map (home_of m.op)))
refusal_is s m w h = by (is_mine s (home_of m.op)) refl h
  where
    by : (a : Bool) → is_mine s (home_of m.op) ≡ a → refusal_by s m a ≡ Some w
        → (is_mine s (home_of m.op) ≡ false) × (w ≡ moved_why (longest s.map (home_of m.op)))
    by false mine e = let q : moved_why (longest s.map (home_of m.op)) ≡ w = cc in (mine, sym q)
    by true mine e = absurd (cc)

pub none_refuses : (s : Server) (m : Lead) → lead_refusal s m ≡ None → is_mine s (home_of m.op) ≡ true
none_refuses s m h = by (is_mine s (home_of m.op)) h
  where
    by : (a : Bool) → refusal_by s m a ≡ None → a ≡ true
    by true e = refl
    by false e = absurd (cc)

-- its home is here
pub mine_unrefused : (s : Server) (m : Lead) → is_mine s (home_of m.op) ≡ true → lead_refusal s m ≡ None
mine_unrefused s m h = ap (refusal_by s m) h

-- ## How it can end

-- it is none that is led; it is to be asked elsewhere; a path lease is wanted; a transaction keeps a file on the path; or one begins
pub data LeadEnds (by : Session) (m : Lead) (s : Server) : Stepped → Type 0 where
  unled : is_led m.op ≡ false → LeadEnds by m s (strange s)
  put_off : (w : Why) → is_led m.op ≡ true → lead_refusal s m ≡ Some w → LeadEnds by m s (refuses by w s)
  wanted : (top dir : List ℕ) → is_led m.op ≡ true → StandsOver (path.Wanted top dir) m s → LeadEnds by m s (wants_path by top dir s)
  kept : (file : List ℕ) (txn : TxnNo) → is_led m.op ≡ true → StandsOver (path.Frozen file txn) m s
      → LeadEnds by m s (refuses by (why.Frozen file txn) s)
  begun : (mode : Mode2) → is_led m.op ≡ true → BeginsIn m s mode → LeadEnds by m s (begins mode by m s)

pub lead_ends : (by : Session) (m : Lead) (s : Server) → LeadEnds by m s (lead_step by m s)
lead_ends by m s = asked (is_led m.op) refl
  where
    found : is_led m.op ≡ true → is_mine s (home_of m.op) ≡ true → takes_path s m.op m.kind ≡ true → (p : PathAnswer)
        → path_here s (home_of m.op) ≡ p → LeadEnds by m s (leads_over p by m s)
    found l h t (path.Path files) p = begun (mode_over files m.file) l (over files (record { here = h; takes = t; known = p }))
    found l h t (path.Wanted top dir) p = wanted top dir l (record { here = h; takes = t; known = p })
    found l h t (path.Frozen file txn) p = kept file txn l (record { here = h; takes = t; known = p })

    here : is_led m.op ≡ true → is_mine s (home_of m.op) ≡ true → (b : Bool) → takes_path s m.op m.kind ≡ b
        → LeadEnds by m s (cond b (leads_over (path_here s (home_of m.op)) by m s) (begins (mode_of m.op m.kind) by m s))
    here l h true t = found l h t (path_here s (home_of m.op)) refl
    here l h false t = begun (mode_of m.op m.kind) l (without_path h t)

    refused : is_led m.op ≡ true → (o : Option Why) → lead_refusal s m ≡ o → LeadEnds by m s (leads_unless o by m s)
    refused l None r = here l (none_refuses s m r) (takes_path s m.op m.kind) refl
    refused l (Some w) r = put_off w l r

    asked : (b : Bool) → is_led m.op ≡ b → LeadEnds by m s (cond b (leads_unless (lead_refusal s m) by m s) (strange s))
    asked true l = refused l (lead_refusal s m) refl
    asked false l = unled l

-- ## Its number

-- the number is that of the next transaction
pub is_next : (s : Server) (txn : TxnNo) → next_txn s.me s.txns ≡ Some txn → txn ≡ txn_of s
is_next s txn h = by (nat_lt s.txns 0xffff_ffff_ffff_ffff) h
  where
    by : (b : Bool) → cond b (Some (txn_of s)) None ≡ Some txn → txn ≡ txn_of s
    by true e = let q : txn_of s ≡ txn = cc in sym q
    by false e = absurd (cc)

pub few_more : (s : Server) (txn : TxnNo) → next_txn s.me s.txns ≡ Some txn → s.txns + 1 < 2 ^ 64
few_more s txn h = by (nat_lt s.txns 0xffff_ffff_ffff_ffff) refl h
  where
    by : (b : Bool) → nat_lt s.txns 0xffff_ffff_ffff_ffff ≡ b → cond b (Some (txn_of s)) None ≡ Some txn → s.txns + 1 < 2 ^ 64
    by true t e = grind (arith, nat_tests)
    by false t e = absurd (cc)

-- no number is left for it
pub txns_over : (given reaps txns : ℕ) (rest : Option Counter) → given < 2 ^ 64 → reaps < 2 ^ 64 → nat_lt txns 0xffff_ffff_ffff_ffff ≡ false
    → cond (nat_le (2 ^ 64) given) (Some Leases) (cond (nat_le (2 ^ 64) reaps) (Some Reaps) (cond (nat_le (2 ^ 64) (txns + 1)) (Some Transactions) rest)) ≡ Some Transactions
txns_over given reaps txns rest g r t = grind (arith, nat_tests)

pub spent_at : (s : Server) → next_txn s.me s.txns ≡ None → nat_lt s.txns 0xffff_ffff_ffff_ffff ≡ false
spent_at s h = by (nat_lt s.txns 0xffff_ffff_ffff_ffff) h
  where
    by : (b : Bool) → cond b (Some (txn_of s)) None ≡ None → b ≡ false
    by true e = absurd (cc)
    by false e = refl

-- ## The vote on a part that is here

-- one table has the row of a lease where both have it
in_its_table : (rows : List Row) (by : Session) (u : Use) → prepare.has_row (rows_off_modes rows) (rows_on_modes rows) by u ≡ has_row rows by u
in_its_table rows by u = at (tells_no_mode u.field) refl
  where
    its_field : (r : Row) → is_lease u.no by u.field u.kind r ≡ true → tells_no_mode r.field ≡ tells_no_mode u.field
    its_field r t =
        let f : ((has_no u.no r && (r.session.0 == by.0)) && same_field r.field u.field) ≡ true = first ((has_no u.no r && (r.session.0 == by.0)) && same_field r.field u.field) (same_kind r.kind u.kind) t in
        same_part r.field u.field (second (has_no u.no r && (r.session.0 == by.0)) (same_field r.field u.field) f)

    at : (b : Bool) → tells_no_mode u.field ≡ b → list_any (is_lease u.no by u.field u.kind) (cond b (rows_off_modes rows) (rows_on_modes rows)) ≡ has_row rows by u
    at true t = sym (any_part (is_lease u.no by u.field u.kind) is_off_modes (λ r h. its_field r h ∙ t) rows)
    at false t = sym (any_part (is_lease u.no by u.field u.kind) (λ r. not (is_off_modes r)) (λ r h. ap not (its_field r h ∙ t)) rows)

pub same_gone : (rows : List Row) (by : Session) (uses : List Use) → prepare.first_gone (rows_off_modes rows) (rows_on_modes rows) by uses ≡ first_gone rows by uses
same_gone rows by uses = ap (λ test. find test uses) (fun_ext (λ u. ap not (in_its_table rows by u)))

-- ## Laws

pub led_at_home : (by : Session) (m : Lead) (s : Server) → is_led m.op ≡ true → is_mine s (home_of m.op) ≡ false
    → lead_step by m s ≡ refuses by (moved_why (longest s.map (home_of m.op))) s
led_at_home by m s l h =
    ap (λ b. cond b (leads_unless (lead_refusal s m) by m s) (strange s)) l
    ∙ ap (λ b. leads_unless (refusal_by s m b) by m s) h

-- its home is here
led_here : (by : Session) (m : Lead) (s : Server) → is_led m.op ≡ true → is_mine s (home_of m.op) ≡ true
    → lead_step by m s ≡ leads_here by m s
led_here by m s l h =
    ap (λ b. cond b (leads_unless (lead_refusal s m) by m s) (strange s)) l ∙ ap (λ b. leads_unless (refusal_by s m b) by m s) h

-- by what is known of that path
pub led_over : (by : Session) (m : Lead) (p : PathAnswer) (s : Server) → is_led m.op ≡ true → StandsOver p m s
    → lead_step by m s ≡ leads_over p by m s
led_over by m p s l o =
    led_here by m s l o.here
    ∙ ap (λ b. cond b (leads_over (path_here s (home_of m.op)) by m s) (begins (mode_of m.op m.kind) by m s)) o.takes
    ∙ ap (λ q. leads_over q by m s) o.known

pub begun_at_home : (by : Session) (m : Lead) (s : Server) → is_led m.op ≡ true → is_mine s (home_of m.op) ≡ true
    → takes_path s m.op m.kind ≡ false → lead_step by m s ≡ begins (mode_of m.op m.kind) by m s
begun_at_home by m s l h t =
    led_here by m s l h ∙ ap (λ b. cond b (leads_over (path_here s (home_of m.op)) by m s) (begins (mode_of m.op m.kind) by m s)) t

-- in that mode
pub led_in_mode : (by : Session) (m : Lead) (mode : Mode2) (s : Server) → is_led m.op ≡ true → BeginsIn m s mode
    → lead_step by m s ≡ begins mode by m s
led_in_mode by m mode s l b = at mode b
  where
    at : (x : Mode2) → BeginsIn m s x → lead_step by m s ≡ begins x by m s
    at x (without_path h t) = begun_at_home by m s l h t
    at x (over files o) = led_over by m (path.Path files) s l o

pub checked_on_path : (by : Session) (m : Lead) (files : List (List ℕ)) (s : Server) → is_led m.op ≡ true → StandsOver (path.Path files) m s
    → has_file files m.file ≡ true → lead_step by m s ≡ begins Check by m s
checked_on_path by m files s l o h = led_over by m (path.Path files) s l o ∙ ap (λ b. begins (cond b Check Freeze) by m s) h

pub frozen_off_path : (by : Session) (m : Lead) (files : List (List ℕ)) (s : Server) → is_led m.op ≡ true → StandsOver (path.Path files) m s
    → has_file files m.file ≡ false → lead_step by m s ≡ begins Freeze by m s
frozen_off_path by m files s l o h = led_over by m (path.Path files) s l o ∙ ap (λ b. begins (cond b Check Freeze) by m s) h
