-- A rename brings no directory into itself where what moves is a file, or stays in its directory, or is not on the chain of the directory
-- into which it comes.
use Rattle.std.proofs.Common.{◌≡◌, ℕ, zero, suc, ◌&&◌, ◌||◌, ◌⊎◌, Bool, true, false, List, [], ◌∷◌, refl, sym, ap, ◌∙◌, subst, inl, inr, cond}
use Rattle.std.specs.Prelude.{Option, Some, None, is_some, nat_eq}
use Rattle.std.specs.Option.{option_map_or}
use Rattle.std.specs.Cmp.Lexicographic.{pointwise}
use Rattle.std.specs.FinMap.{get, len}
use Rattle.fs_ident.specs.Ident.{same}
use Rattle.fs_ident.specs.declared.actor.Session.{Session}
use Rattle.fs_ident.specs.declared.kind.Kind.{Kind}
use Rattle.fs_ident.specs.declared.kind.Kind.TheVariants.{File, Dir}
use Rattle.fs_ident.proofs.Same.{same_is}
use Rattle.fs_model.specs.Ancestors.{ancestors, ancestors_within, directory_of, is_among, is_on_chain}
use Rattle.fs_model.specs.Children.{child_at}
use Rattle.fs_model.specs.Namespace.{NodeMap}
use Rattle.fs_model.specs.Sound.{IsSound, IsTree, child_of, kind_of, parent_of}
use Rattle.fs_model.specs.Step.{Stepped, denies_delete, rename, rename_child, rename_in, rename_to, rename_to_dir, reply_alone, step, with_moved_node}
use Rattle.fs_model.specs.declared.node.Node.{Node}
use Rattle.fs_model.specs.declared.op.Op.TheVariants as op
use Rattle.fs_model.specs.declared.reply.Reply.{Reply}
use Rattle.fs_model.specs.declared.reply.Reply.TheVariants as reply
use Rattle.fs_model.proofs.SoundRuns.{all_listed, own_ancestor}

-- ## Ancestors are directories

either_of : (a b : Bool) → (a || b) ≡ true → (a ≡ true) ⊎ (b ≡ true)
either_of true b h = inl refl
either_of false b h = inr h

placed_in : (o : Option Node) (d : List ℕ) → directory_of o ≡ Some d → (name : List ℕ) × (parent_of o ≡ Some (d, name))
placed_in None d h = absurd (cc)
placed_in (Some n) d h = by n.parent refl h
  where
    by : (p : Option (List ℕ × List ℕ)) → n.parent ≡ p → directory_of (Some (record n { parent = p })) ≡ Some d → (name : List ℕ) × (n.parent ≡ Some (d, name))
    by None e g = absurd (cc)
    by (Some q) e g = let same : q.0 ≡ d = cc in (q.1, e ∙ ap (λ (x : List ℕ). Some (x, q.1)) same)

module _ (m : NodeMap) (tree : IsTree m) where
  above_dir : (k : ℕ) (at other : List ℕ) → is_among other (ancestors_within k m at) ≡ true → kind_of (get m other) ≡ Some Dir
  above_dir zero at other h = absurd (cc)
  above_dir (suc k) at other h = by (directory_of (get m at)) refl h (λ d. above_dir k d other)
    where
      by : (o : Option (List ℕ)) → directory_of (get m at) ≡ o → is_among other (option_map_or (λ dir. dir ∷ ancestors_within k m dir) o []) ≡ true → ((d : List ℕ) → is_among other (ancestors_within k m d) ≡ true → kind_of (get m other) ≡ Some Dir) → kind_of (get m other) ≡ Some Dir
      by None e g rec = absurd (cc)
      by (Some d) e g rec = elim (either_of (pointwise nat_eq d other) (is_among other (ancestors_within k m d)) g) as (λ _. kind_of (get m other) ≡ Some Dir) [
        | inl t ↦ let p = placed_in (get m at) d e in subst (λ x. kind_of (get m x) ≡ Some Dir) (same_is d other t) (tree.in_directories at d p.0 p.1)
        | inr t ↦ rec d t
      ]

-- ## The reply

-- where a test gives another reply, it failed
pub past : (m : NodeMap) (b : Bool) (r q : Reply) (t : Stepped) → (r ≡ q → ⊥) → (cond b (reply_alone m r) t).reply ≡ q → (b ≡ false) × (t.reply ≡ q)
past m true r q t wrong h = absurd (wrong h)
past m false r q t wrong h = (refl, h)

on_chain : (m n : NodeMap) (b : Bool) → (let x : Stepped = cond b (reply_alone m reply.Cycle) (record { reply = reply.Renamed; nodes = n }) in x).reply ≡ reply.Cycle → b ≡ true
on_chain m n true h = refl
on_chain m n false h = absurd (cc)

-- the file is on the chain of the directory to which it goes, and goes to another place
pub record WouldCycle (m : NodeMap) (sdir sname ddir dname file : List ℕ) : Type 0 where
  pub lives : kind_of (get m ddir) ≡ Some Dir
  pub chain : is_on_chain m file ddir ≡ true
  pub other : (same sdir ddir && same sname dname) ≡ false

module _ (m : NodeMap) (sdir sname ddir dname file : List ℕ) where
  child_cycles : (d : Node) → (rename_child m sdir sname d ddir dname (Some file)).reply ≡ reply.Cycle → (is_on_chain m file ddir ≡ true) × ((same sdir ddir && same sname dname) ≡ false)
  child_cycles d h =
      let p = past m (pointwise nat_eq sdir ddir && pointwise nat_eq sname dname) reply.Renamed reply.Cycle _ (λ e. absurd (cc)) h in
      let q = past m (is_some (child_at d.children dname)) reply.Exists reply.Cycle _ (λ e. absurd (cc)) p.1 in
      let r = past m (denies_delete (get m file)) reply.Sharing reply.Cycle _ (λ e. absurd (cc)) q.1 in
      (on_chain m (with_moved_node m file sdir sname ddir dname) (is_on_chain m file ddir) r.1, p.0)

  to_cycles : (s : Node) (o : Option Node) → get m ddir ≡ o → child_at s.children sname ≡ Some file → (rename_to m s sdir sname o ddir dname).reply ≡ reply.Cycle → WouldCycle m sdir sname ddir dname file
  to_cycles s None e c h = absurd (cc)
  to_cycles s (Some d) e c h = by d.kind refl h
    where
      by : (k : Kind) → d.kind ≡ k → (rename_to_dir k m s sdir sname d ddir dname).reply ≡ reply.Cycle → WouldCycle m sdir sname ddir dname file
      by File t g = absurd (cc)
      by Dir t g = let q = child_cycles d (subst (λ x. (rename_child m sdir sname d ddir dname x).reply ≡ reply.Cycle) c g) in record { lives = ap kind_of e ∙ ap Some t; chain = q.0; other = q.1 }

  pub cycles : (o : Option Node) → child_of o sname ≡ Some file → (rename o m sdir sname ddir dname).reply ≡ reply.Cycle → WouldCycle m sdir sname ddir dname file
  cycles None c h = absurd (cc)
  cycles (Some s) c h = by s.kind h
    where
      by : (k : Kind) → (rename_in k m s sdir sname ddir dname).reply ≡ reply.Cycle → WouldCycle m sdir sname ddir dname file
      by File g = absurd (cc)
      by Dir g = to_cycles s (get m ddir) refl c g

-- ## Where it moves, it is not on that chain

module _ (m : NodeMap) (sdir sname ddir dname file : List ℕ) (other : (same sdir ddir && same sname dname) ≡ false) where
  abbrev onward : Node → Stepped
  onward d = cond (is_some (child_at d.children dname)) (reply_alone m reply.Exists)
      (cond (denies_delete (get m file)) (reply_alone m reply.Sharing)
      (cond (is_on_chain m file ddir) (reply_alone m reply.Cycle)
      (record { reply = reply.Renamed; nodes = with_moved_node m file sdir sname ddir dname })))

  child_off : (d : Node) → (rename_child m sdir sname d ddir dname (Some file)).reply ≡ reply.Renamed → is_on_chain m file ddir ≡ false
  child_off d h =
      let p : (onward d).reply ≡ reply.Renamed =
      subst (λ b. (cond b (reply_alone m reply.Renamed) (onward d)).reply ≡ reply.Renamed) other h in
      let q = past m (is_some (child_at d.children dname)) reply.Exists reply.Renamed _ (λ e. absurd (cc)) p in
      let r = past m (denies_delete (get m file)) reply.Sharing reply.Renamed _ (λ e. absurd (cc)) q.1 in
      (past m (is_on_chain m file ddir) reply.Cycle reply.Renamed _ (λ e. absurd (cc)) r.1).0

  to_off : (s : Node) (o : Option Node) → child_at s.children sname ≡ Some file
      → (rename_to m s sdir sname o ddir dname).reply ≡ reply.Renamed → is_on_chain m file ddir ≡ false
  to_off s None c h = absurd (cc)
  to_off s (Some d) c h = by d.kind h
    where
      by : (k : Kind) → (rename_to_dir k m s sdir sname d ddir dname).reply ≡ reply.Renamed → is_on_chain m file ddir ≡ false
      by File g = absurd (cc)
      by Dir g = child_off d (subst (λ x. (rename_child m sdir sname d ddir dname x).reply ≡ reply.Renamed) c g)

  pub off_chain : (o : Option Node) → child_of o sname ≡ Some file → (rename o m sdir sname ddir dname).reply ≡ reply.Renamed
      → is_on_chain m file ddir ≡ false
  off_chain None c h = absurd (cc)
  off_chain (Some s) c h = by s.kind h
    where
      by : (k : Kind) → (rename_in k m s sdir sname ddir dname).reply ≡ reply.Renamed → is_on_chain m file ddir ≡ false
      by File g = absurd (cc)
      by Dir g = to_off s (get m ddir) c g

-- ## The file of a cycle

-- something has the name then
pub cycle_named : (m : NodeMap) (sdir sname ddir dname : List ℕ) (o : Option Node) → (rename o m sdir sname ddir dname).reply ≡ reply.Cycle → (file : List ℕ) × (child_of o sname ≡ Some file)
cycle_named m sdir sname ddir dname None h = absurd (cc)
cycle_named m sdir sname ddir dname (Some s) h = by_kind s.kind h
  where
    by_child : (d : Node) (c : Option (List ℕ)) → child_at s.children sname ≡ c → (rename_child m sdir sname d ddir dname c).reply ≡ reply.Cycle → (file : List ℕ) × (child_at s.children sname ≡ Some file)
    by_child d None e g = absurd (cc)
    by_child d (Some file) e g = (file, e)

    by_dir : (d : Node) (k : Kind) → (rename_to_dir k m s sdir sname d ddir dname).reply ≡ reply.Cycle → (file : List ℕ) × (child_at s.children sname ≡ Some file)
    by_dir d File g = absurd (cc)
    by_dir d Dir g = by_child d (child_at s.children sname) refl g

    by_to : (p : Option Node) → (rename_to m s sdir sname p ddir dname).reply ≡ reply.Cycle → (file : List ℕ) × (child_at s.children sname ≡ Some file)
    by_to None g = absurd (cc)
    by_to (Some d) g = by_dir d d.kind g

    by_kind : (k : Kind) → (rename_in k m s sdir sname ddir dname).reply ≡ reply.Cycle → (file : List ℕ) × (child_at s.children sname ≡ Some file)
    by_kind File g = absurd (cc)
    by_kind Dir g = by_to (get m ddir) g

-- ## It does not come

module _ (m : NodeMap) (sound : IsSound m) (sdir sname ddir dname file : List ℕ) (named : child_of (get m sdir) sname ≡ Some file) where
  file_stays : kind_of (get m file) ≡ Some File → WouldCycle m sdir sname ddir dname file → ⊥
  file_stays k w =
      let dir : kind_of (get m file) ≡ Some Dir = elim (either_of (pointwise nat_eq ddir file) (is_among file (ancestors m ddir)) w.chain) as (λ _. kind_of (get m file) ≡ Some Dir) [
        | inl t ↦ subst (λ x. kind_of (get m x) ≡ Some Dir) (same_is ddir file t) w.lives
        | inr t ↦ above_dir m sound.tree (len m) ddir file t
      ] in
      let z : Some File ≡ Some Dir = sym k ∙ dir in absurd (cc)

  dir_stays : same sdir ddir ≡ true → WouldCycle m sdir sname ddir dname file → ⊥
  dir_stays t w =
      let place : parent_of (get m file) ≡ Some (sdir, sname) = (sound.tree.agreeing sdir sname file).0 named in
      let chain : is_among file (sdir ∷ ancestors m sdir) ≡ true = ap (λ d. is_on_chain m file d) (same_is sdir ddir t) ∙ w.chain in
      let above : is_among file (ancestors_within (suc (len m)) m file) ≡ true = ap (λ o. is_among file (option_map_or (λ dir. dir ∷ ancestors_within (len m) m dir) o [])) (in_it (get m file) place) ∙ chain in
      let listed : is_among file (ancestors m file) ≡ true = all_listed m file file (suc (len m)) sound above in
      let z : true ≡ false = sym listed ∙ own_ancestor m file sound in absurd (cc)
    where
      in_it : (o : Option Node) → parent_of o ≡ Some (sdir, sname) → directory_of o ≡ Some sdir
      in_it None h = absurd (cc)
      in_it (Some n) h = ap (λ (p : Option (List ℕ × List ℕ)). directory_of (Some (record n { parent = p }))) h

  pub no_cycle : (by : Session)
      → (kind_of (get m file) ≡ Some File) ⊎ ((same sdir ddir ≡ true) ⊎ (is_on_chain m file ddir ≡ false))
      → (step m by (op.Rename sdir sname ddir dname)).reply ≡ reply.Cycle → ⊥
  no_cycle by (inl k) h = file_stays k (cycles m sdir sname ddir dname file (get m sdir) named h)
  no_cycle by (inr (inl t)) h = dir_stays t (cycles m sdir sname ddir dname file (get m sdir) named h)
  no_cycle by (inr (inr off)) h =
      let w : WouldCycle m sdir sname ddir dname file = cycles m sdir sname ddir dname file (get m sdir) named h in
      let wrong : true ≡ false = sym w.chain ∙ off in absurd (cc wrong)
