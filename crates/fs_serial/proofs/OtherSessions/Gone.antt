-- Files that are gone stay so: what was made is made no more.
use Rattle.std.proofs.Common.{◌≡◌, ℕ, Bool, true, false, List, [], ◌∷◌, ◌++◌, ◌⊎◌, refl, sym, ap, ◌∙◌, inl, inr}
use Rattle.std.specs.Prelude.{Option, Some, None, is_some}
use Rattle.std.specs.FinMap.{get}
use Rattle.std.specs.List.{list_any}
use Rattle.fs_ident.specs.In.{In}
use Rattle.fs_ident.specs.declared.actor.Session.{Session}
use Rattle.fs_ident.specs.declared.kind.Kind.{Kind}
use Rattle.fs_ident.specs.declared.kind.Kind.TheVariants.{Dir}
use Rattle.fs_ident.proofs.Options.{not_some}
use Rattle.fs_field.specs.declared.field.Field.{Field}
use Rattle.fs_field.specs.declared.field.Field.TheVariants.{Life, Child, Names, Info, Own, SelfW, Other}
use Rattle.fs_field.specs.declared.row.Row.{Row}
use Rattle.fs_field.specs.declared.value.Value.{Value}
use Rattle.fs_field.specs.declared.value.Value.TheVariants as value
use Rattle.fs_model.specs.Sound.{kind_of}
use Rattle.fs_model.specs.declared.node.Node.{Node}
use Rattle.fs_msg.specs.declared.entry.Entry.{Entry}
use Rattle.fs_msg.specs.declared.item.Item.{Item}
use Rattle.fs_record.specs.Applied.{records_after_all}
use Rattle.fs_record.specs.Effects.{effects_of}
use Rattle.fs_record.specs.Records.{RecordMap, node_of}
use Rattle.fs_record.specs.ValueOf.{value_of}
use Rattle.fs_view.specs.Gone.{IsGone, IsUnread}
use Rattle.fs_view.specs.ViewLease.{makes}
use Rattle.fs_view.proofs.Seeing.{own_values}
use Rattle.fs_view.proofs.Unread.{gone_in, gone_stays}
use Rattle.fs_serial.specs.Fresh.{TellsLife, made, made_by, or_else, ByLease, ByLog, IsMade, FreshReserved, reserved_by}
use Rattle.fs_serial.specs.Gone.{IsOfGone}
use Rattle.fs_serial.specs.Leases.{LeasesTrue}
use Rattle.fs_serial.specs.Parts.{AllHold}
use Rattle.fs_serial.specs.Pending.{IsAnswer, IsEntry, values_after}
use Rattle.fs_serial.specs.Serial.{AreSound}
use Rattle.fs_serial.specs.Settled.{Lease, Settled, effects_in}
use Rattle.fs_serial.specs.Sight.{Sight}
use Rattle.fs_serial.specs.World.{pushed}
use Rattle.fs_serial.proofs.Admission.Answered.{answered}
use Rattle.fs_serial.proofs.Admission.Births.{life_after, makes_there, names_made}
use Rattle.fs_serial.proofs.Grants.Claims.{AreUnborn, unmade_dead}
use Rattle.fs_serial.proofs.Lists.Journals.{below_itself, made-append, made_one}

-- ## What was made

still_some : (a b : Option Kind) → is_some a ≡ true → is_some (or_else a b) ≡ true
still_some None b h = absurd (cc)
still_some (Some k) b h = refl

-- stays so
pub made_more : (is : List Item) (i : Item) (id : List ℕ) → IsMade is id → IsMade (is ++ i ∷ []) id
made_more is i id h = ap is_some (made-append is i id) ∙ still_some (made is id) _ h

pub made_pushed : (i : Option Item) (is : List Item) (id : List ℕ) → IsMade is id → IsMade (pushed i is) id
made_pushed None is id h = h
made_pushed (Some i) is id h = made_more is i id h

pub dirs_pushed : (i : Option Item) (is : List Item) (id : List ℕ) → made is id ≡ Some Dir → made (pushed i is) id ≡ Some Dir
dirs_pushed None is id h = h
dirs_pushed (Some i) is id h = made_one is i id Dir h

-- so what tells of it goes on to do so
pub tells_later : (is more : List Item) (file : List ℕ) (told : Value) → (made is file ≡ Some Dir → made more file ≡ Some Dir) → TellsLife is file told → TellsLife more file told
tells_later is more file told stays t = record { life = t.life; is = t.is; dir = λ e. stays (t.dir e) }

-- no entry of the log makes a file that was made
abbrev pub MakeAnew : Session → List Item → List Entry → Type 0
MakeAnew by journal log = (e : Entry) → In e log → (id : List ℕ) → IsMade journal id → list_any (makes id) (effects_in by e) ≡ false

-- it makes the one that it names
pub makes_anew : (clients : Session → Settled) (by : Session) (m : RecordMap) (journal : List Item) → FreshReserved (reserved_by clients) m journal → MakeAnew by journal (clients by).log
makes_anew clients by m journal f e i id was = makes_there by e.op e.reply id ∙ within (is_some (made_by e.op e.reply id)) refl
  where
    within : (b : Bool) → is_some (made_by e.op e.reply id) ≡ b → b ≡ false
    within true t = absurd (f.unmade by ByLog id id (record { entry = e; among = i; named = names_made e.op e.reply id t }) was (below_itself id))
    within false t = refl

pub all_anew : (skew greatest : ℕ) (s : Sight) (replied : Session → List Item) (clients : Session → Settled) → AllHold skew greatest s replied clients → (by : Session) → MakeAnew by s.journal (clients by).log
all_anew skew greatest s replied clients h by = makes_anew clients by s.stored s.journal h.reserved

pub all_unborn : (skew greatest : ℕ) (s : Sight) (replied : Session → List Item) (clients : Session → Settled) → AllHold skew greatest s replied clients → (by : Session) → AreUnborn s.records (clients by)
all_unborn skew greatest s replied clients h by n id r = unmade_dead s.records s.journal id h.kept.made (λ made. h.reserved.unmade by (ByLease n) id id r made (below_itself id))

-- ## What is gone

lifeless : (o : Option Node) → kind_of o ≡ None → o ≡ None
lifeless None h = refl
lifeless (Some n) h = absurd (cc)

-- stays so, where files that live no more have no kind
pub still_gone : (m n : RecordMap) (file : List ℕ) → kind_of (node_of (get n file)) ≡ kind_of (node_of (get m file)) → node_of (get m file) ≡ None → node_of (get n file) ≡ None
still_gone m n file same h = lifeless (node_of (get n file)) (same ∙ ap kind_of h)

-- after an entry that does not make it
pub gone_then : (m : RecordMap) (by : Session) (e : Entry) → IsEntry e → IsAnswer (value_of m by) e → AreSound m → (file : List ℕ) → list_any (makes file) (effects_in by e) ≡ false → node_of (get m file) ≡ None
    → node_of (get (records_after_all m (effects_of by e.op e.reply)) file) ≡ None
gone_then m by e plain right sound file unmade h =
    let after : RecordMap = records_after_all m (effects_of by e.op e.reply) in
    let life : value_of after by (Life file) ≡ value.Life (or_else (made_by e.op e.reply file) (kind_of (node_of (get m file)))) =
    own_values m by e.op e.reply (Life file) sound.records plain.plain (answered m by e plain right) ∙ life_after by e.op e.reply file (kind_of (node_of (get m file))) in
    let kind : kind_of (node_of (get after file)) ≡ or_else (made_by e.op e.reply file) (kind_of (node_of (get m file))) = cc life in
    let none : made_by e.op e.reply file ≡ None = not_some (made_by e.op e.reply file) (sym (makes_there by e.op e.reply file) ∙ unmade) in
    still_gone m after file (kind ∙ ap (λ a. or_else a (kind_of (node_of (get m file)))) none) h

-- records and journal of a later sight
pub gone_later : (m n : RecordMap) (is js : List Item) → ((id : List ℕ) → IsMade is id → IsMade js id) → ((id : List ℕ) → IsMade is id → node_of (get m id) ≡ None → node_of (get n id) ≡ None) → (field : Field) → IsOfGone m is field → IsOfGone n js field
gone_later m n is js more gone (Info file) h = (more file h.0, gone file h.0 h.1)
gone_later m n is js more gone (Life f) h = h
gone_later m n is js more gone (Child d name) h = h
gone_later m n is js more gone (Names d) h = h
gone_later m n is js more gone (Own f) h = h
gone_later m n is js more gone (SelfW f md) h = h
gone_later m n is js more gone (Other f md) h = h

-- what leases tell is told where the journal alone grows
pub telling_later : (rows : List Row) (m : RecordMap) (is js : List Item) → ((id : List ℕ) → IsMade is id → IsMade js id) → (by : Session) (leases : List Lease) → LeasesTrue rows (IsOfGone m is) (value_of m by) leases → LeasesTrue rows (IsOfGone m js) (value_of m by) leases
telling_later rows m is js more by leases h l i r j n = elim (h l i r j n) as (λ _. IsOfGone m js l.field ⊎ (l.base ≡ value_of m by l.field)) [
  | inl gone ↦ inl (gone_later m m is js more (λ file was none. none) l.field gone)
  | inr same ↦ inr same
]

-- ## As a session sees it

-- the field is size and stamp of a file that was made and is gone by these values
abbrev pub IsLost : List Item → (Field → Value) → Field → Type 0
IsLost journal v (Info file) = IsMade journal file × IsGone file v
IsLost journal v field = ⊥

pub lost_unread : (journal : List Item) (v : Field → Value) (field : Field) → IsLost journal v field → IsUnread v field
lost_unread journal v (Info file) h = h.1
lost_unread journal v (Life f) h = h
lost_unread journal v (Child d name) h = h
lost_unread journal v (Names d) h = h
lost_unread journal v (Own f) h = h
lost_unread journal v (SelfW f md) h = h
lost_unread journal v (Other f md) h = h

pub lost_in : (m : RecordMap) (by : Session) (journal : List Item) (field : Field) → IsOfGone m journal field → IsLost journal (value_of m by) field
lost_in m by journal (Info file) h = (h.0, gone_in m by file h.1)
lost_in m by journal (Life f) h = h
lost_in m by journal (Child d name) h = h
lost_in m by journal (Names d) h = h
lost_in m by journal (Own f) h = h
lost_in m by journal (SelfW f md) h = h
lost_in m by journal (Other f md) h = h

-- and stays so after an entry that answers by the values and makes another file
pub lost_after : (by : Session) (journal : List Item) (v : Field → Value) (e : Entry) → IsAnswer v e → ((id : List ℕ) → IsMade journal id → list_any (makes id) (effects_in by e) ≡ false) → (field : Field) → IsLost journal v field → IsLost journal (values_after by e v) field
lost_after by journal v e a anew (Info file) h = (h.0, gone_stays by file v e.op e.reply h.1 a.reply (anew file h.0))
lost_after by journal v e a anew (Life f) h = h
lost_after by journal v e a anew (Child d name) h = h
lost_after by journal v e a anew (Names d) h = h
lost_after by journal v e a anew (Own f) h = h
lost_after by journal v e a anew (SelfW f md) h = h
lost_after by journal v e a anew (Other f md) h = h
