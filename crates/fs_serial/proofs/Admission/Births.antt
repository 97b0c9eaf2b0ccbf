-- Which file an entry makes.
use Rattle.std.proofs.Common.{◌≡◌, ℕ, ◌||◌, Bool, true, false, List, [], ◌∷◌, map, refl, sym, ap, ◌∙◌, cond}
use Rattle.std.specs.Prelude.{Option, Some, None, is_some}
use Rattle.std.specs.List.{list_any}
use Rattle.fs_ident.specs.Ident.{same}
use Rattle.fs_ident.specs.declared.actor.Session.{Session}
use Rattle.fs_ident.specs.declared.kind.Kind.{Kind}
use Rattle.fs_ident.proofs.Booleans.{neither}
use Rattle.fs_ident.proofs.Same.{same_is, same_self}
use Rattle.fs_field.specs.declared.field.Field.TheVariants.{Life}
use Rattle.fs_field.specs.declared.used.Use.{Use}
use Rattle.fs_field.specs.declared.value.Value.TheVariants as value
use Rattle.fs_model.specs.declared.op.Op.{Op}
use Rattle.fs_model.specs.declared.op.Op.TheVariants as op
use Rattle.fs_model.specs.declared.reply.Reply.{Reply}
use Rattle.fs_model.specs.declared.reply.Reply.TheVariants as reply
use Rattle.fs_msg.specs.declared.entry.Entry.{Entry}
use Rattle.fs_record.specs.Effects.{effects_of}
use Rattle.fs_view.specs.ViewLease.{is_pending, makes}
use Rattle.fs_view.specs.View.{value_after_all, value_after_log}
use Rattle.fs_serial.specs.Fresh.{made_by, or_else}
use Rattle.fs_serial.specs.Pending.{NamesItsFile, named_by}
use Rattle.fs_serial.specs.Settled.{effects_in}
use Rattle.fs_serial.proofs.Lists.Journals.{same_symm}

-- ## What the effects say

born : (b : Bool) (k : Kind) (l : Option Kind) → cond b (Some k) l ≡ or_else (cond b (Some k) None) l
born true k l = refl
born false k l = refl

-- the life of a file after the entry
pub life_after : (by : Session) (o : Op) (r : Reply) (id : List ℕ) (l : Option Kind) → value_after_all by (Life id) (value.Life l) (effects_of by o r) ≡ value.Life (or_else (made_by o r id) l)
life_after by (op.Create dir name kind (Some new)) reply.Made id l =
    ap (λ b. value.Life (cond b (Some kind) l)) (same_symm id new) ∙ ap value.Life (born (same new id) kind l)
life_after by (op.OpenFile file h modes) reply.Opened id l = refl
life_after by (op.Close file h) reply.Closed id l = refl
life_after by (op.Set file h size stamp) reply.Set id l = refl
life_after by o r id l = refl

one : (b : Bool) (k : Kind) → (b || false) ≡ is_some (cond b (Some k) None)
one true k = refl
one false k = refl

-- an effect makes the file where the entry does
pub makes_there : (by : Session) (o : Op) (r : Reply) (id : List ℕ) → list_any (makes id) (effects_of by o r) ≡ is_some (made_by o r id)
makes_there by (op.Create dir name kind (Some new)) reply.Made id = one (same new id) kind
makes_there by (op.OpenFile file h modes) reply.Opened id = refl
makes_there by (op.Close file h) reply.Closed id = refl
makes_there by (op.Set file h size stamp) reply.Set id = refl
makes_there by o r id = refl

-- ## What a log says

at_once : (b : Bool) (k : Kind) → is_some (cond b (Some k) None) ≡ true → b ≡ true
at_once true k h = refl
at_once false k h = absurd (cc)

-- the entry names the file that it makes
pub names_made : (o : Op) (r : Reply) (id : List ℕ) → is_some (made_by o r id) ≡ true → named_by o ≡ Some id
names_made (op.Create dir name kind (Some new)) reply.Made id h = ap Some (same_is new id (at_once (same new id) kind h))
names_made o r id h = absurd (cc)

-- an entry that names a file makes it
once_made : (b : Bool) (k : Kind) → b ≡ true → is_some (cond b (Some k) None) ≡ true
once_made true k h = refl
once_made false k h = absurd (cc)

pub named_makes : (uses : List Use) (o : Op) (r : Reply) (id : List ℕ) → NamesItsFile uses o r → named_by o ≡ Some id → is_some (made_by o r id) ≡ true
named_makes uses (op.Create dir name kind (Some new)) reply.Made id n h = let q : new ≡ id = cc in once_made (same new id) kind (ap (same new) (sym q) ∙ same_self new)
named_makes uses (op.Create dir name kind (Some new)) r id n h = absurd n
named_makes uses (op.Create dir name kind None) r id n h = absurd (cc)
named_makes uses o r id n h = absurd (cc)

-- ## Logs that do not make a file

none_or : (a l : Option Kind) → is_some a ≡ false → or_else a l ≡ l
none_or None l h = refl
none_or (Some k) l h = absurd (cc)

pub stays_unborn : (by : Session) (es : List Entry) (id : List ℕ) → is_pending id (map (effects_in by) es) ≡ false → value_after_log by (Life id) (value.Life None) (map (effects_in by) es) ≡ value.Life None
stays_unborn by [] id h = refl
stays_unborn by (e ∷ es) id h =
    let q = neither (list_any (makes id) (effects_in by e)) (is_pending id (map (effects_in by) es)) h in
    ap (λ v. value_after_log by (Life id) v (map (effects_in by) es)) (life_after by e.op e.reply id None ∙ ap value.Life (none_or (made_by e.op e.reply id) None (sym (makes_there by e.op e.reply id) ∙ q.0)))
    ∙ stays_unborn by es id q.1
