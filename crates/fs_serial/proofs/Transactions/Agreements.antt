-- How a transaction of which all parts said Yes is decided: it is carried out; it would bring a directory into itself, and changes nothing;
-- or it is put off, for what is known of the path.
use Rattle.std.proofs.Common.{◌≡◌, ◌&&◌, ℕ, zero, suc, Bool, true, false, not, List, [], ◌∷◌, ◌++◌, map, refl, sym, ap, ap₂, ◌∙◌, subst, cond, inl, inr}
use Rattle.std.specs.FinMap.{get}
use Rattle.std.specs.Prelude.{Option, Some, None, is_some, slice_get, unwrap_or}
use Rattle.std.specs.List.{flat_map}
use Rattle.fs_ident.specs.Ident.{same}
use Rattle.fs_ident.specs.declared.kind.Kind.{Kind}
use Rattle.fs_ident.specs.declared.kind.Kind.TheVariants.{Dir, File}
use Rattle.fs_field.specs.declared.effect.Effect.{Effect}
use Rattle.fs_field.specs.declared.path.PathAnswer.{PathAnswer}
use Rattle.fs_field.specs.declared.path.PathAnswer.TheVariants.{Frozen, Path, Wanted}
use Rattle.fs_field.specs.declared.used.Part.{Part}
use Rattle.fs_model.specs.Asking.{home_of}
use Rattle.fs_model.specs.declared.op.Op.{Op}
use Rattle.fs_model.specs.declared.op.Op.TheVariants as op
use Rattle.fs_model.specs.declared.reply.Reply.TheVariants as reply
use Rattle.fs_record.specs.declared.led_end.LedEnd.{LedEnd}
use Rattle.fs_record.specs.declared.led_end.LedEnd.TheVariants as end
use Rattle.fs_txn.specs.declared.decision.Decision.TheVariants.{Abort}
use Rattle.fs_msg.specs.declared.lead.Lead.{Lead as ToLead}
use Rattle.fs_record.specs.LedEffects.{led_effects}
use Rattle.fs_record.specs.declared.led_end.Why.{Why}
use Rattle.fs_record.specs.declared.led_end.Why.TheVariants as why
use Rattle.fs_server.specs.Laws.{BeginsIn, StandsOver, over, without_path}
use Rattle.fs_server.specs.Leads.{mode_of, mode_over, takes_path}
use Rattle.fs_server.specs.Server.{is_mine}
use Rattle.fs_server.specs.declared.state.Server.{Server}
use Rattle.fs_txn.specs.Deciding.{again, agreed, by_files, by_path, commit, decision, effects_on, first_end, has_file, needs_path, reply_of}
use Rattle.fs_txn.specs.Deciding.{told_effects, unless_ended}
use Rattle.fs_txn.specs.declared.decision.Decision.{Decision}
use Rattle.fs_txn.specs.declared.leader.Leader.{Leader}
use Rattle.fs_txn.specs.declared.mode.Mode2.{Mode2}
use Rattle.fs_txn.specs.declared.mode.Mode2.TheVariants.{Check, Freeze, Plain}
use Rattle.fs_serial.specs.Leading.{ComesInto, IsMode}
use Rattle.fs_client.specs.Led.{can_end_with}

-- ## Modes

pub comes_renamed : (kind : Kind) (o : Op) → ComesInto kind o → reply_of o ≡ reply.Renamed
comes_renamed Dir (op.Rename sdir sname ddir dname) h = refl
comes_renamed kind o h = absurd h

-- and can end with that reply
pub can_cycle : (kind : Kind) (o : Op) → ComesInto kind o → can_end_with o reply.Cycle ≡ true
can_cycle Dir (op.Rename sdir sname ddir dname) h = refl
can_cycle kind o h = absurd h

needs_none : (o : Op) (kind : Kind) → needs_path (mode_of o kind) o ≡ false
needs_none (op.Delete dir name) File = refl
needs_none (op.Delete dir name) Dir = refl
needs_none o kind = refl

-- where the decision stands on a path, a directory comes into another one
pub needs_comes : (mode : Mode2) (kind : Kind) (o : Op) → IsMode mode kind o → needs_path mode o ≡ true → ComesInto kind o
needs_comes mode kind o (inl e) n =
    let wrong : true ≡ false = sym n ∙ ap (λ x. needs_path x o) e ∙ needs_none o kind in absurd (cc wrong)
needs_comes mode kind o (inr q) n = q.1

-- the path of the home is taken
takes_comes : (mode : Mode2) (s : Server) (o : Op) (kind : Kind) → takes_path s o kind ≡ true → (mode ≡ Plain → ⊥)
    → (needs_path mode o ≡ true) × ComesInto kind o
takes_comes mode s (op.Rename sdir sname ddir dname) Dir t off = (needs mode off, apart (same sdir ddir) refl t)
  where
    needs : (x : Mode2) → (x ≡ Plain → ⊥) → needs_path x (op.Rename sdir sname ddir dname) ≡ true
    needs Plain n = absurd (n refl)
    needs Freeze n = refl
    needs Check n = refl

    apart : (b : Bool) → same sdir ddir ≡ b → takes_path s (op.Rename sdir sname ddir dname) Dir ≡ true → b ≡ false
    apart false e h = refl
    apart true e h =
        let wrong : true ≡ false = sym h ∙ ap (λ b. not b && is_some (get s.records ddir)) e in absurd (cc wrong)
takes_comes mode s o File t off = absurd (cc t)
takes_comes mode s o Dir t off = absurd (cc t)

pub over_comes : (m : ToLead) (s : Server) (files : List (List ℕ)) → StandsOver (Path files) m s
    → (needs_path (mode_over files m.file) m.op ≡ true) × ComesInto m.kind m.op
over_comes m s files p = takes_comes (mode_over files m.file) s m.op m.kind p.takes (not_plain (has_file files m.file))
  where
    not_plain : (b : Bool) → cond b Check Freeze ≡ Plain → ⊥
    not_plain true e = absurd (cc e)
    not_plain false e = absurd (cc e)

-- so it begins
pub mode_begun : (m : ToLead) (s : Server) (mode : Mode2) → BeginsIn m s mode → IsMode mode m.kind m.op
mode_begun m s mode (without_path h t) = inl refl
mode_begun m s mode (over files p) = inr (over_comes m s files p)

-- at its home
pub begun_home : (m : ToLead) (s : Server) (mode : Mode2) → BeginsIn m s mode → is_mine s (home_of m.op) ≡ true
begun_home m s mode (without_path h t) = h
begun_home m s mode (over files p) = p.here

-- ## What is agreed

-- the path has the file, or has it not
pub record IsOn (on : Bool) (l : Leader) (path : Option PathAnswer) : Type 0 where
  pub files : List (List ℕ)
  pub known : path ≡ Some (Path files)
  pub has : has_file files l.file ≡ on

-- the file is kept where it is, and is not on the path of the directory into which it comes
pub record IsClear (l : Leader) (path : Option PathAnswer) : Type 0 where
  pub off : IsOn false l path
  pub freezes : l.mode ≡ Freeze

pub data Agrees (l : Leader) (path : Option PathAnswer) : Decision → Type 0 where
  carried : (needs_path l.mode l.op ≡ true → IsClear l path) → Agrees l path (commit l (reply_of l.op))
  cycled : needs_path l.mode l.op ≡ true → IsOn true l path → Agrees l path (commit l reply.Cycle)
  put_off : (w : Why) → Agrees l path (again w)

agreed_by : (l : Leader) (path : Option PathAnswer) → (needs_path l.mode l.op ≡ true → reply_of l.op ≡ reply.Renamed)
    → Agrees l path (agreed l path)
agreed_by l path renames = by (needs_path l.mode l.op) refl
  where
    by_file : (files : List (List ℕ)) → path ≡ Some (Path files) → needs_path l.mode l.op ≡ true → (mode : Mode2) → l.mode ≡ mode
        → (on : Bool) → has_file files l.file ≡ on → Agrees l path (by_files l mode on)
    by_file files known n Check is true h = cycled n (record { files = files; known = known; has = h })
    by_file files known n Check is false h = put_off why.Changed
    by_file files known n Freeze is true h = put_off why.Changed
    by_file files known n Freeze is false h = subst (λ r. Agrees l path (commit l r)) (renames n)
        (carried (λ y. record { off = record { files = files; known = known; has = h }; freezes = is }))
    by_file files known n Plain is on h =
        let wrong : false ≡ true = sym (ap (λ x. needs_path x l.op) is) ∙ n in absurd (cc wrong)

    at : needs_path l.mode l.op ≡ true → (o : Option PathAnswer) → path ≡ o → Agrees l path (by_path l o)
    at n None e = put_off why.Changed
    at n (Some (Path files)) e = by_file files e n l.mode refl (has_file files l.file) refl
    at n (Some (Wanted file parent)) e = put_off (why.Wanted file)
    at n (Some (Frozen file txn)) e = put_off (why.Frozen file txn)

    by : (b : Bool) → needs_path l.mode l.op ≡ b → Agrees l path (cond b (by_path l path) (commit l (reply_of l.op)))
    by true n = at n path refl
    by false n = carried (λ y. let wrong : false ≡ true = sym n ∙ y in absurd (cc wrong))

-- by the mode in which it began
pub agrees : (l : Leader) (kind : Kind) (path : Option PathAnswer) → IsMode l.mode kind l.op → Agrees l path (agreed l path)
agrees l kind path m = agreed_by l path (λ n. comes_renamed kind l.op (needs_comes l.mode kind l.op m n))

-- ## The decision

pub data Decides (l : Leader) (path : Option PathAnswer) : Type 0 where
  carries : first_end l.votes ≡ None → (needs_path l.mode l.op ≡ true → IsClear l path) → decision l path ≡ commit l (reply_of l.op)
      → Decides l path
  cycles : first_end l.votes ≡ None → needs_path l.mode l.op ≡ true → IsOn true l path → decision l path ≡ commit l reply.Cycle
      → Decides l path
  aborts : (e : LedEnd) → decision l path ≡ Abort e → Decides l path

pub decides_so : (l : Leader) (kind : Kind) (path : Option PathAnswer) → IsMode l.mode kind l.op → Decides l path
decides_so l kind path m = by_end (first_end l.votes) refl
  where
    by_agreed : first_end l.votes ≡ None → (d : Decision) → Agrees l path d → decision l path ≡ d → Decides l path
    by_agreed none d (carried clear) is = carries none clear is
    by_agreed none d (cycled n on) is = cycles none n on is
    by_agreed none d (put_off w) is = aborts (end.Again w) is

    by_end : (o : Option LedEnd) → first_end l.votes ≡ o → Decides l path
    by_end None none = by_agreed none (agreed l path) (agrees l kind path m) (ap (λ o. unless_ended o (agreed l path)) none)
    by_end (Some e) ends = aborts e (ap (λ o. unless_ended o (agreed l path)) ends)

-- ## A cycle changes nothing

-- no part is told anything
abbrev pub TellsNone : Decision → Type 0
TellsNone d = (number : ℕ) → told_effects d number ≡ []

pub cycle_does_nothing : (o : Op) (file : List ℕ) → led_effects o file reply.Cycle ≡ []
cycle_does_nothing (op.Rename sdir sname ddir dname) file = refl
cycle_does_nothing (op.Delete dir name) file = refl
cycle_does_nothing o file = refl

none_at : (parts : List Part) (number : ℕ) → unwrap_or (slice_get (map (λ (p : Part). let none : List Effect = [] in none) parts) number) [] ≡ []
none_at [] number = refl
none_at (p ∷ ps) zero = refl
none_at (p ∷ ps) (suc number) = none_at ps number

pub cycle_tells_none : (l : Leader) → TellsNone (commit l reply.Cycle)
cycle_tells_none l number =
    ap (λ es. unwrap_or (slice_get (map (λ (p : Part). effects_on es p.file) l.parts) number) []) (cycle_does_nothing l.op l.file)
    ∙ none_at l.parts number

pub none_told : (d : Decision) → TellsNone d → (ns : List (ℕ × ℕ)) → flat_map (λ (n : ℕ × ℕ). told_effects d n.0) ns ≡ []
none_told d h [] = refl
none_told d h (n ∷ ns) = ap₂ (λ (xs ys : List Effect). xs ++ ys) (h n.0) (none_told d h ns)
