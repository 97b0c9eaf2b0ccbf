-- Decided effects while they are on their way: what they leave of records and rows, and what leaves them as they are.
use Rattle.std.proofs.Common.{◌≡◌, ℕ, Bool, true, false, List, [], ◌∷◌, cond, refl, sym, ap, ◌∙◌, subst, ◌⊎◌, inl, inr}
use Rattle.std.specs.Prelude.{Option, Some, None, is_some}
use Rattle.std.specs.Ordering.{nat_cmp, eq_by_cmp}
use Rattle.std.specs.Cmp.Lexicographic.{slice_cmp}
use Rattle.std.specs.FinMap.{get}
use Rattle.fs_ident.specs.In.{In}
use Rattle.fs_ident.specs.Ident.{same}
use Rattle.fs_ident.specs.declared.actor.Session.{Session}
use Rattle.fs_ident.proofs.Same.{same_is, same_self}
use Rattle.fs_ident.proofs.Standing.{In-map}
use Rattle.fs_field.specs.After.{changed_file}
use Rattle.fs_field.specs.declared.effect.Effect.{Effect}
use Rattle.fs_field.specs.declared.effect.Effect.TheVariants.{SetChild, SetParent, NewNode, RemoveNode, AddHandle, RemoveHandle, SetInfo}
use Rattle.fs_field.specs.declared.field.Field.{Field}
use Rattle.fs_field.specs.declared.lease_kind.LeaseKind.{LeaseKind}
use Rattle.fs_field.specs.declared.row.Row.{Row}
use Rattle.fs_model.specs.Namespace.{NodeMap}
use Rattle.fs_model.specs.Sound.{kind_of, parent_of}
use Rattle.fs_model.specs.Step.{children_of}
use Rattle.fs_model.specs.declared.node.Node.{Node}
use Rattle.fs_msg.specs.declared.item.Item.{Item}
use Rattle.fs_record.specs.Applied.{node_change, record_change, records_after, records_after_all}
use Rattle.fs_record.specs.Records.{RecordMap, node_of, nodes_of}
use Rattle.fs_record.specs.ValueOf.{handles_of}
use Rattle.fs_record.specs.declared.record.Record.{Record}
use Rattle.fs_record.proofs.Kept.{get_with_at}
use Rattle.fs_record.proofs.NodeMaps.{node_there}
use Rattle.fs_record.proofs.NodeValues.{key_is}
use Rattle.fs_record.proofs.Undoing.{get_here}
use Rattle.fs_record.proofs.ValueChanges.{change_node}
use Rattle.fs_txn.specs.Decided.{AreApart, AreDecided, IsApart, IsDecided, held_with}
use Rattle.fs_txn.specs.Grants.{Decided, IsBare, effects_in}
use Rattle.fs_txn.specs.Guards.{HasLocked, IsGuarded, is_enough}
use Rattle.fs_serial.specs.Decided.{DecidedStands, IsOfFile}
use Rattle.fs_serial.specs.Fresh.{IsMade}

abbrev pub effect_of : Decided → Effect
effect_of d = d.effect

-- ## The effects of what is decided

pub are_decided : (ds : List Decided) → ((d : Decided) → In d ds → IsDecided d.effect) → AreDecided (effects_in ds)
are_decided ds h e i = let q = In-map effect_of e ds i in subst IsDecided (sym q.1.1) (h q.0 q.1.0)

pub are_apart : (ds : List Decided) (es : List Effect) → ((d : Decided) → In d ds → (e : Effect) → In e es → IsApart d.effect e) → AreApart (effects_in ds) es
are_apart ds es h d e i j = let q = In-map effect_of d ds i in subst (λ x. IsApart x e) (sym q.1.1) (h q.0 q.1.0 e j)

-- ## Guards

-- the row is in the table, still locked
pub record StaysLocked (rows : List Row) (r : Row) : Type 0 where
  pub row : Row
  pub stands : In row rows
  pub session : row.session ≡ r.session
  pub field : row.field ≡ r.field
  pub kind : row.kind ≡ r.kind
  pub lock : is_some row.lock ≡ true

-- each locked row of the session stays so
abbrev pub LocksStay : Session → List Row → List Row → Type 0
LocksStay by rows new = (r : Row) → In r rows → r.session ≡ by → is_some r.lock ≡ true → StaysLocked new r

pub locks_stay : (by : Session) (rows : List Row) → LocksStay by rows rows
locks_stay by rows r i own l = record { row = r; stands = i; session = refl; field = refl; kind = refl; lock = l }

pub locks_then : (by : Session) (a b c : List Row) → LocksStay by a b → LocksStay by b c → LocksStay by a c
locks_then by a b c f g r i own l =
    let x = f r i own l in
    let y = g x.row x.stands (x.session ∙ own) x.lock in
    record { row = y.row; stands = y.stands; session = y.session ∙ x.session; field = y.field ∙ x.field; kind = y.kind ∙ x.kind; lock = y.lock }

locked_still : (rows new : List Row) (by : Session) (on : Field) (wanted : LeaseKind) → LocksStay by rows new → HasLocked rows by on wanted → HasLocked new by on wanted
locked_still rows new by on wanted stay g =
    let k = stay g.row g.stands g.session g.lock in
    record { row = k.row; stands = k.stands; session = k.session ∙ g.session; field = k.field ∙ g.field; enough = ap (is_enough wanted) k.kind ∙ g.enough; lock = k.lock }

-- where the locked rows stay, and the place of a file that gets another
abbrev pub PlaceStays : NodeMap → NodeMap → Effect → Type 0
PlaceStays held then (SetParent file dir name) = parent_of (get then file) ≡ parent_of (get held file)
PlaceStays held then e = Unit {0}

guarded_then : (rows new : List Row) (held then : NodeMap) (by : Session) (e : Effect) → LocksStay by rows new → PlaceStays held then e → IsGuarded rows held by e → IsGuarded new then by e
guarded_then rows new held then by (SetChild dir name to) stay place g = (locked_still rows new by _ _ stay g.0, locked_still rows new by _ _ stay g.1)
guarded_then rows new held then by (SetParent file dir name) stay place g =
    (record { dir = (g.0).dir; name = (g.0).name; place = place ∙ (g.0).place; row = locked_still rows new by _ _ stay (g.0).row }, locked_still rows new by _ _ stay g.1)
guarded_then rows new held then by (RemoveNode file) stay place g =
    (locked_still rows new by _ _ stay g.0, (locked_still rows new by _ _ stay (g.1).0, locked_still rows new by _ _ stay (g.1).1))
guarded_then rows new held then by (NewNode f k d n) stay place g = absurd g
guarded_then rows new held then by (AddHandle f a b c) stay place g = absurd g
guarded_then rows new held then by (RemoveHandle f a b) stay place g = absurd g
guarded_then rows new held then by (SetInfo f a b) stay place g = absurd g

-- ## A decided effect, where rows, records and the journal are others

-- the node of a file that goes stays
abbrev pub GoingStays : RecordMap → RecordMap → Effect → Type 0
GoingStays m n (RemoveNode file) = node_of (get n file) ≡ node_of (get m file)
GoingStays m n e = Unit {0}

bare_then : (m n : RecordMap) (e : Effect) → GoingStays m n e → IsBare m e → IsBare n e
bare_then m n (RemoveNode file) stays b = (ap children_of stays ∙ b.0, ap handles_of stays ∙ b.1)
bare_then m n (SetChild d x to) stays b = tt
bare_then m n (SetParent f d x) stays b = tt
bare_then m n (NewNode f k d x) stays b = tt
bare_then m n (AddHandle f a x c) stays b = tt
bare_then m n (RemoveHandle f a x) stays b = tt
bare_then m n (SetInfo f a x) stays b = tt

file_then : (journal more : List Item) (e : Effect) → ((id : List ℕ) → IsMade journal id → IsMade more id) → IsOfFile journal e → IsOfFile more e
file_then journal more (RemoveNode file) grows b = grows file b
file_then journal more (SetChild d x to) grows b = tt
file_then journal more (SetParent f d x) grows b = tt
file_then journal more (NewNode f k d x) grows b = tt
file_then journal more (AddHandle f a x c) grows b = tt
file_then journal more (RemoveHandle f a x) grows b = tt
file_then journal more (SetInfo f a x) grows b = tt

pub stands_then : (rows new : List Row) (m n : RecordMap) (held then : NodeMap) (journal more : List Item) (d : Decided) → LocksStay d.by rows new → PlaceStays held then d.effect → GoingStays m n d.effect → ((id : List ℕ) → IsMade journal id → IsMade more id)
    → DecidedStands rows m held journal d → DecidedStands new n then more d
stands_then rows new m n held then journal more d stay place going grows s = record {
  decided = s.decided;
  guarded = guarded_then rows new held then d.by d.effect stay place s.guarded;
  bare = bare_then m n d.effect going s.bare;
  file = file_then journal more d.effect grows s.file;
}

pub place_same : (held : NodeMap) (e : Effect) → PlaceStays held held e
place_same held (SetParent f d n) = refl
place_same held (SetChild d x to) = tt
place_same held (NewNode f k d x) = tt
place_same held (RemoveNode f) = tt
place_same held (AddHandle f a x c) = tt
place_same held (RemoveHandle f a x) = tt
place_same held (SetInfo f a x) = tt

pub going_same : (m n : RecordMap) (e : Effect) → ((f : List ℕ) → node_of (get n f) ≡ node_of (get m f)) → GoingStays m n e
going_same m n (RemoveNode f) h = h f
going_same m n (SetParent f d x) h = tt
going_same m n (SetChild d x to) h = tt
going_same m n (NewNode f k d x) h = tt
going_same m n (AddHandle f a x c) h = tt
going_same m n (RemoveHandle f a x) h = tt
going_same m n (SetInfo f a x) h = tt

-- ## Effects that are apart from it

-- one effect leaves the node of another file
pub node_beside : (m : RecordMap) (e : Effect) (f : List ℕ) → (f ≡ changed_file e → ⊥) → get (records_after m e) f ≡ get m f
node_beside m e f other = get_with_at m k (record_change e (get m k)) f ∙ ap (λ b. cond b (record_change e (get m k)) (get m f)) (off (eq_by_cmp (slice_cmp nat_cmp) f k) refl)
  where
    k : List ℕ
    k = changed_file e

    off : (b : Bool) → eq_by_cmp (slice_cmp nat_cmp) f k ≡ b → b ≡ false
    off true t = absurd (other (key_is f k t))
    off false t = refl

-- and this is the node of its own file
pub node_changed : (m : RecordMap) (e : Effect) → node_of (get (records_after m e) (changed_file e)) ≡ node_change e (node_of (get m (changed_file e)))
node_changed m e = ap node_of (get_here m (changed_file e) (record_change e (get m (changed_file e)))) ∙ change_node e (get m (changed_file e))

pub either_file : (a b : List ℕ) → (a ≡ b) ⊎ (a ≡ b → ⊥)
either_file a b = by (same a b) refl
  where
    by : (t : Bool) → same a b ≡ t → (a ≡ b) ⊎ (a ≡ b → ⊥)
    by true t = inl (same_is a b t)
    by false t = inr (λ e. let wrong : false ≡ true = sym t ∙ ap (λ x. same x b) e ∙ same_self b in absurd (cc))

pub going_past : (m : RecordMap) (d : Effect) (es : List Effect) → ((e : Effect) → In e es → IsApart d e) → GoingStays m (records_after_all m es) d
going_past m (RemoveNode f) [] apart = refl
going_past m (RemoveNode f) (e ∷ es) apart = going_past (records_after m e) (RemoveNode f) es (λ x i. apart x (inr i)) ∙ ap node_of (node_beside m e f (λ s. apart e (inl refl) s))
going_past m (SetParent f d x) es h = tt
going_past m (SetChild d x to) es h = tt
going_past m (NewNode f k d x) es h = tt
going_past m (AddHandle f a x c) es h = tt
going_past m (RemoveHandle f a x) es h = tt
going_past m (SetInfo f a x) es h = tt

-- what is apart from a new place leaves the old one
place_kept : (file dir name : List ℕ) (e : Effect) (o : Option Node) → IsApart (SetParent file dir name) e → file ≡ changed_file e → parent_of (node_change e o) ≡ parent_of o
place_kept file dir name (SetChild d n None) None apart s = refl
place_kept file dir name (SetChild d n None) (Some x) apart s = refl
place_kept file dir name (SetChild d n (Some z)) None apart s = refl
place_kept file dir name (SetChild d n (Some z)) (Some x) apart s = refl
place_kept file dir name (SetParent g d n) o apart s = absurd (apart s)
place_kept file dir name (NewNode g k d n) o apart s = absurd (apart s)
place_kept file dir name (RemoveNode g) o apart s = absurd (apart s)
place_kept file dir name (AddHandle g a x c) None apart s = refl
place_kept file dir name (AddHandle g a x c) (Some y) apart s = refl
place_kept file dir name (RemoveHandle g a x) None apart s = refl
place_kept file dir name (RemoveHandle g a x) (Some y) apart s = refl
place_kept file dir name (SetInfo g a x) None apart s = refl
place_kept file dir name (SetInfo g a x) (Some y) apart s = refl

place_one : (m : RecordMap) (file dir name : List ℕ) (e : Effect) → IsApart (SetParent file dir name) e → parent_of (node_of (get (records_after m e) file)) ≡ parent_of (node_of (get m file))
place_one m file dir name e apart = elim (either_file file (changed_file e)) as (λ _. parent_of (node_of (get (records_after m e) file)) ≡ parent_of (node_of (get m file))) [
  | inl s ↦ ap (λ f. parent_of (node_of (get (records_after m e) f))) s ∙ ap parent_of (node_changed m e) ∙ place_kept file dir name e (node_of (get m (changed_file e))) apart s ∙ ap (λ f. parent_of (node_of (get m f))) (sym s)
  | inr other ↦ ap (λ (o : Option Record). parent_of (node_of o)) (node_beside m e file other)
]

pub place_all : (m : RecordMap) (file dir name : List ℕ) (es : List Effect) → ((e : Effect) → In e es → IsApart (SetParent file dir name) e) → parent_of (node_of (get (records_after_all m es) file)) ≡ parent_of (node_of (get m file))
place_all m file dir name [] apart = refl
place_all m file dir name (e ∷ es) apart = place_all (records_after m e) file dir name es (λ x i. apart x (inr i)) ∙ place_one m file dir name e (apart e (inl refl))

pub place_past : (m : RecordMap) (d : Effect) (es : List Effect) → ((e : Effect) → In e es → IsApart d e) → PlaceStays (nodes_of m) (nodes_of (records_after_all m es)) d
place_past m (SetParent f d n) es apart = ap parent_of (node_there (records_after_all m es) f) ∙ place_all m f d n es apart ∙ sym (ap parent_of (node_there m f))
place_past m (SetChild d x to) es h = tt
place_past m (NewNode f k d x) es h = tt
place_past m (RemoveNode f) es h = tt
place_past m (AddHandle f a x c) es h = tt
place_past m (RemoveHandle f a x) es h = tt
place_past m (SetInfo f a x) es h = tt

-- ## What all hold together

-- a file that goes is gone in it
none_still : (m : RecordMap) (e : Effect) (f : List ℕ) → IsDecided e → node_of (get m f) ≡ None → node_of (get (records_after m e) f) ≡ None
none_still m e f d none = elim (either_file f (changed_file e)) as (λ _. node_of (get (records_after m e) f) ≡ None) [
  | inl s ↦ ap (λ x. node_of (get (records_after m e) x)) s ∙ node_changed m e ∙ ap (node_change e) (ap (λ x. node_of (get m x)) (sym s) ∙ none) ∙ of_none e d
  | inr other ↦ ap node_of (node_beside m e f other) ∙ none
]
  where
    of_none : (e : Effect) → IsDecided e → node_change e None ≡ None
    of_none (SetChild a b None) k = refl
    of_none (SetParent a b c) k = refl
    of_none (RemoveNode a) k = refl
    of_none (SetChild a b (Some z)) k = absurd k
    of_none (NewNode a b c z) k = absurd k
    of_none (AddHandle a b c z) k = absurd k
    of_none (RemoveHandle a b c) k = absurd k
    of_none (SetInfo a b c) k = absurd k

-- and after all of them
pub none_all : (m : RecordMap) (es : List Effect) (f : List ℕ) → AreDecided es → node_of (get m f) ≡ None → node_of (get (records_after_all m es) f) ≡ None
none_all m [] f d none = none
none_all m (e ∷ es) f d none = none_all (records_after m e) es f (λ x i. d x (inr i)) (none_still m e f (d e (inl refl)) none)

pub gone_held : (m : RecordMap) (es : List Effect) (f : List ℕ) → AreDecided es → In (RemoveNode f) es → node_of (get (held_with es m) f) ≡ None
gone_held m (e ∷ es) f d (inl q) = none_all (records_after m e) es f (λ x i. d x (inr i)) (subst (λ x. node_of (get (records_after m x) f) ≡ None) q (node_changed m (RemoveNode f)))
gone_held m (e ∷ es) f d (inr i) = gone_held (records_after m e) es f (λ x j. d x (inr j)) i
gone_held m [] f d i = absurd i

-- each other file is what it is in the records
kind_kept : (e : Effect) (o : Option Node) → IsDecided e → (e ≡ RemoveNode (changed_file e) → ⊥) → kind_of (node_change e o) ≡ kind_of o
kind_kept (SetChild a b None) None k r = refl
kind_kept (SetChild a b None) (Some x) k r = refl
kind_kept (SetParent a b c) None k r = refl
kind_kept (SetParent a b c) (Some x) k r = refl
kind_kept (RemoveNode a) o k r = absurd (r refl)
kind_kept (SetChild a b (Some z)) o k r = absurd k
kind_kept (NewNode a b c z) o k r = absurd k
kind_kept (AddHandle a b c z) o k r = absurd k
kind_kept (RemoveHandle a b c) o k r = absurd k
kind_kept (SetInfo a b c) o k r = absurd k

pub kind_held : (m : RecordMap) (es : List Effect) (f : List ℕ) → AreDecided es → (In (RemoveNode f) es → ⊥) → kind_of (node_of (get (held_with es m) f)) ≡ kind_of (node_of (get m f))
kind_held m [] f d stays = refl
kind_held m (e ∷ es) f d stays = kind_held (records_after m e) es f (λ x i. d x (inr i)) (λ i. stays (inr i)) ∙ one
  where
    one : kind_of (node_of (get (records_after m e) f)) ≡ kind_of (node_of (get m f))
    one = elim (either_file f (changed_file e)) as (λ _. kind_of (node_of (get (records_after m e) f)) ≡ kind_of (node_of (get m f))) [
      | inl s ↦ ap (λ x. kind_of (node_of (get (records_after m e) x))) s ∙ ap kind_of (node_changed m e) ∙ kind_kept e (node_of (get m (changed_file e))) (d e (inl refl)) (λ q. stays (inl (ap RemoveNode s ∙ sym q))) ∙ ap (λ x. kind_of (node_of (get m x))) (sym s)
      | inr other ↦ ap (λ (o : Option Record). kind_of (node_of o)) (node_beside m e f other)
    ]

-- the handles on every file are those in the records, where nobody has a file open that goes
handles_kept : (e : Effect) (o : Option Node) → IsDecided e → (e ≡ RemoveNode (changed_file e) → handles_of o ≡ []) → handles_of (node_change e o) ≡ handles_of o
handles_kept (SetChild a b None) None k r = refl
handles_kept (SetChild a b None) (Some x) k r = refl
handles_kept (SetParent a b c) None k r = refl
handles_kept (SetParent a b c) (Some x) k r = refl
handles_kept (RemoveNode a) o k r = sym (r refl)
handles_kept (SetChild a b (Some z)) o k r = absurd k
handles_kept (NewNode a b c z) o k r = absurd k
handles_kept (AddHandle a b c z) o k r = absurd k
handles_kept (RemoveHandle a b c) o k r = absurd k
handles_kept (SetInfo a b c) o k r = absurd k

pub handles_held : (m : RecordMap) (es : List Effect) (f : List ℕ) → AreDecided es → ((g : List ℕ) → In (RemoveNode g) es → handles_of (node_of (get m g)) ≡ []) → handles_of (node_of (get (held_with es m) f)) ≡ handles_of (node_of (get m f))
handles_held m [] f d unused = refl
handles_held m (e ∷ es) f d unused = handles_held (records_after m e) es f (λ x i. d x (inr i)) (λ g i. one g ∙ unused g (inr i)) ∙ one f
  where
    own : e ≡ RemoveNode (changed_file e) → handles_of (node_of (get m (changed_file e))) ≡ []
    own q = unused (changed_file e) (inl (sym q))

    one : (g : List ℕ) → handles_of (node_of (get (records_after m e) g)) ≡ handles_of (node_of (get m g))
    one g = elim (either_file g (changed_file e)) as (λ _. handles_of (node_of (get (records_after m e) g)) ≡ handles_of (node_of (get m g))) [
      | inl s ↦ ap (λ x. handles_of (node_of (get (records_after m e) x))) s ∙ ap handles_of (node_changed m e) ∙ handles_kept e (node_of (get m (changed_file e))) (d e (inl refl)) own ∙ ap (λ x. handles_of (node_of (get m x))) (sym s)
      | inr other ↦ ap (λ (o : Option Record). handles_of (node_of o)) (node_beside m e g other)
    ]
