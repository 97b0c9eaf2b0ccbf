-- Serial runs, one item after another, and that every answer is a step of the namespace.
use Rattle.std.proofs.Common.{◌≡◌, ℕ, Bool, true, false, List, [], ◌∷◌, ◌++◌, if◌then◌else◌, refl, ap, ◌∙◌, not}
use Rattle.std.specs.Prelude.{Option, None}
use Rattle.std.specs.List.{AllByRecursion}
use Rattle.fs_ident.specs.declared.actor.Session.{Session}
use Rattle.fs_ident.specs.declared.kind.Kind.{Kind}
use Rattle.fs_model.specs.declared.op.Op.{Op}
use Rattle.fs_model.specs.declared.op.Op.TheVariants as op
use Rattle.fs_model.specs.Asking.{may_ask}
use Rattle.fs_model.specs.Namespace.{NodeMap}
use Rattle.fs_model.specs.Step.{step}
use Rattle.fs_model.specs.Sound.{IsSound, AsksAccess}
use Rattle.fs_model.proofs.SoundRuns.{step_sound, own_ancestor, handles_apart}
use Rattle.fs_msg.specs.declared.item.Item.{Item}
use Rattle.fs_msg.specs.Journal.{IsSerialRun, asker, is_reap, item_step, may_admit, spaces_after}
use Rattle.fs_world.specs.Order.{SameButId}
use Rattle.fs_world.specs.Safe.{IsSafe}
use Rattle.fs_world.specs.Direct.{Answer, Numbers, answer, answer_of, with_number_used, is_made, candidate}

-- one more item at the end
pub serial_push : (a : NodeMap) (is : List Item) (b : NodeMap) (i : Item) → IsSerialRun a is b → may_admit i.by i.op ≡ true
    → (item_step b i).reply ≡ i.reply → IsSerialRun a (is ++ i ∷ []) (item_step b i).nodes
serial_push a [] b i e m r = (m, ap (λ (x : NodeMap). (item_step x i).reply) e ∙ r, ap (λ (x : NodeMap). (item_step x i).nodes) e)
serial_push a (x ∷ xs) b i h m r = (h.0, h.1, serial_push (item_step a x).nodes xs b i h.2 m r)

-- what was answered is the step of the operation that was carried out, which is the one asked for
pub record IsStep (m : NodeMap) (by : Session) (asked : Op) (a : Answer) : Type 0 where
  pub reply : (step m by a.op).reply ≡ a.reply
  pub space : (step m by a.op).nodes ≡ a.space
  pub same : SameButId asked a.op
  pub plain : not (is_reap a.op) ≡ true
  pub asks : AsksAccess a.op

create_steps : (b : Bool) (m : NodeMap) (next : Numbers) (by : Session) (dir name : List ℕ) (kind : Kind) (unnamed id : Option (List ℕ))
    → IsStep m by (op.Create dir name kind unnamed) (if b then with_number_used next dir (answer_of m next by (op.Create dir name kind id))
    else answer_of m next by (op.Create dir name kind None))
create_steps true m next by dir name kind unnamed id = record { reply = refl; space = refl; same = (id, refl); plain = refl; asks = tt }
create_steps false m next by dir name kind unnamed id = record { reply = refl; space = refl; same = (None, refl); plain = refl; asks = tt }

pub answer_steps : (m : NodeMap) (next : Numbers) (by : Session) (o : Op) → may_ask o ≡ true → IsStep m by o (answer m next by o)
answer_steps m next by (op.Create dir name kind id) h =
    create_steps (is_made (step m by (op.Create dir name kind (candidate next dir))).reply) m next by dir name kind id (candidate next dir)
answer_steps m next by (op.Lookup dir name) h = record { reply = refl; space = refl; same = refl; plain = refl; asks = tt }
answer_steps m next by (op.List dir) h = record { reply = refl; space = refl; same = refl; plain = refl; asks = tt }
answer_steps m next by (op.Kind file) h = record { reply = refl; space = refl; same = refl; plain = refl; asks = tt }
answer_steps m next by (op.Info file) h = record { reply = refl; space = refl; same = refl; plain = refl; asks = tt }
answer_steps m next by (op.OpenFile file n modes) h = record { reply = refl; space = refl; same = refl; plain = refl; asks = h }
answer_steps m next by (op.Close file n) h = record { reply = refl; space = refl; same = refl; plain = refl; asks = tt }
answer_steps m next by (op.Set file n size stamp) h = record { reply = refl; space = refl; same = refl; plain = refl; asks = tt }
answer_steps m next by (op.Delete dir name) h = record { reply = refl; space = refl; same = refl; plain = refl; asks = tt }
answer_steps m next by (op.Rename sdir sname ddir dname) h = record { reply = refl; space = refl; same = refl; plain = refl; asks = tt }
answer_steps m next by (op.Reap file session) h = absurd (cc)

-- each item's operation asks for an access where it opens
abbrev pub AllAsk : List Item → Type 0
AllAsk items = AllByRecursion (λ (i : Item). AsksAccess i.op) items

pub asks_push : (is : List Item) (i : Item) → AllAsk is → AsksAccess i.op → AllAsk (is ++ i ∷ [])
asks_push [] i h a = (a, tt)
asks_push (x ∷ xs) i h a = (h.0, asks_push xs i h.1 a)

sound_safe : (m : NodeMap) → IsSound m → IsSafe m
sound_safe m s = record { sound = s; acyclic = λ file. own_ancestor m file s; sharing = λ file. handles_apart m file s }

-- safe after every item, by the law of the steps
pub safe_after : (m : NodeMap) (is : List Item) → IsSound m → AllAsk is → AllByRecursion IsSafe (spaces_after m is)
safe_after m [] s h = tt
safe_after m (i ∷ is) s h =
    let next : IsSound (item_step m i).nodes = step_sound m (asker i.by) i.op s h.0 in
    (sound_safe (item_step m i).nodes next, safe_after (item_step m i).nodes is next h.1)
