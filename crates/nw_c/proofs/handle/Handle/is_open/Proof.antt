-- `is_open` compares the pointer with null. What the handle owns allows this comparison.
use mathlib.Core.Path.{◌≡◌, refl, sym, subst}
use mathlib.Core.Bool.{Bool, true, false, not}
use mathlib.Core.List.{List, [], ◌∷◌}
use Prim.Native.Nat.{ℕ}
use lib.Dec.{lit<, T}
use seplogic.Ra.Ura.{Ura}
use base.Fraction.{full_share}
use mir.Raw.{raw as bare}
use mir.Syntax.{named, ty_ptr, ptr_eq, bit_not}
use mir.Val.{Val, vnull, vbool, op1_val, op2_val, has_ty, WT}
use base.Logic.{SProp, ent, via, fst∗, never, never_e, emp}
use base.Fml.{Lft, GName, Share, ftrue, flft, feq}
use prog.Memory.{Memory}
use prog.Routine.{Routine}
use prog.Wp.{WpFn, Tables}
use types.Logic.{Logic, sem}
use contract.Monad.{Fun, fact, fact_i, fact_mono}
use contract.Running.{tables, tables_of}
use sound.WpLaws.{WpFn-mono}
use types.Kit.{‵, raw, ◌⊛◌, ◌$◌, ◌∵◌, !, qed, by, move, keep, split, join, fsplit, fsplit3, feq_i, feq_l, rewrite, suffices, frame, group, done, drop}
use types.Part.{whole, sub, look_in}
use types.Run.{stop, fld, load, bin, un, lit, returns, enter, of_opd}
use types.ByLocal.{alloc_all, pass_all, free_all, look_at, get, through, sets, is as same}
use denote.Laws.{shows, Shows}
use denote.Memory.{cell_at, lone}
use denote.RattleType.{owns}
use denote.RawPtr.{Ptr, block_ptr, null_ptr, ptr_val, Testable, tests_null}
use denote.Ref.{MutBor, MutRef, mut_vals, mut_Tells}
use denote.Signature.{plain}
use denote.Steps.{nothing, opens, closes, peeks}
use denote.Triple.Entry.{on_entry}
use denote.Triple.Spec.{triple_of}
use denote.Triple.Table.{entered}
use denote.Triple.Walked.{Stays, stay_ref, walk_of, ends_at, walked, walk_Meets, Goes-ref}
use Rattle.core.proofs.mem.Facts.{says_two}
use Rattle.std.specs.Global.{Global}
use Rattle.std_heap.proofs.GlobalToken.{dealloc_token-Testable}
use Rattle.std_heap.specs.contracts.GlobalAllocator.TheImpl.{ghosts}
use Rattle.std.specs.Box.Ownership.{box_owns}
use Rattle.nw_c.specs.declared.content.Content.{Content}
use Rattle.nw_c.specs.contracts.content.Content.{the_row as Held}
use Rattle.nw_c.specs.Held.{holds}
use Rattle.nw_c.specs.contracts.handle.Handle.{the_row as Handle}
use Rattle.nw_c.proofs.handle.Handle.TheLaws.{lowers}
use Rattle.nw_c.specs.contracts.handle.Handle.is_open as F
use Rattle.nw_c.specs.contracts.handle.Handle.is_open.Key.{name as #self}
use Rattle.nw_c.proofs.handle.Handle.is_open.Statement as stated
use Rattle.nw_c.proofs.handle.Handle.is_open.Code as code

abbrev stayed : Stays F.ended.signature.params F.ended.kept
stayed = (stay_ref (0 ∷ []) tt (plain (λ _. Handle)), tt)

-- the pointer may be compared with null, and it is null exactly when the handle is closed
abbrev Answers : Ptr → Bool → Type 0
Answers p k = Testable p × (op2_val ptr_eq (ptr_val p) vnull ≡ vbool (not k))

typed : (p : Ptr) → T (has_ty ty_ptr (ptr_val p)) × WT (ptr_val p)
typed (block_ptr b o) = (tt, tt)
typed null_ptr = (tt, record { fits = lit< tt })

twice : (k : Bool) → op1_val bit_not (vbool (not k)) ≡ vbool k
twice true = refl
twice false = refl

module _ {M : Type 1} {𝓤 : Ura M} (𝓛 : Logic 𝓤) where
  open 𝓛 use {H}

  answers : (a : Global) (p : Ptr) (k : Bool) (xs : Content) → ent 𝓤 (sem 𝓛 (holds a p k xs)) (fact 𝓤 (Answers p k))
  answers a p false xs =
      qed 𝓛 (‵ (feq Ptr p null_ptr) ∷ []) ∵ feq_l ! (λ e.
      by ! (subst (λ (s : Ptr). ent 𝓤 (types.Kit.⋆ 𝓛 []) (fact 𝓤 (Answers s false))) (sym e) (fact_i 𝓤 (Answers null_ptr false) (types.Kit.⋆ 𝓛 []) (lit< tt, refl))))
  answers a null_ptr true xs = via 𝓤 (never 𝓤) (fst∗ 𝓤 (never 𝓤) (sem 𝓛 (ghosts.dealloc_token a (bare (lone Held.mir)) null_ptr))) (never_e 𝓤 (fact 𝓤 (Answers null_ptr true)))
  answers a (block_ptr b o) true xs =
      let token = ghosts.dealloc_token a (bare (lone Held.mir)) (block_ptr b o) in
      qed 𝓛 (‵ (box_owns (ghosts.dealloc_token a) Held (block_ptr b o) xs) ∷ []) ∵ fsplit ! $ drop ! $
      by ! (via 𝓤 (fact 𝓤 (Testable (block_ptr b o))) (dealloc_token-Testable 𝓛 a (bare (lone Held.mir)) (block_ptr b o)) (fact_mono 𝓤 (Testable (block_ptr b o)) (Answers (block_ptr b o) true) (λ may. (may, refl))))

  shows_answers : Shows 𝓛 Handle (λ h vs. Answers h.at h.held)
  shows_answers h vs = qed 𝓛 (‵ (Handle.own_val h vs) ∷ []) ∵ fsplit ! $ drop ! $ by ! (answers h.alloc h.at h.held h.value)

  module _ (at_mem : Memory → SProp 𝓤) (run : Routine → Fun 𝓤) (𝓣 : Tables 𝓤 𝓛.H) (κ : Lft) (q : Share) (b o : ℕ) (γ : GName) (h : Handle.Denot) where
    abbrev self : MutBor Handle.Denot
    self = record { ref_ptr = (b, o); ghost_name = γ; now = h }

    abbrev bound : (walk_of 𝓛 F.ended stayed (F.clauses 𝓛 at_mem run)).Ghost
    bound = (((κ, tt), (q, tt), tt, (self, tt), (mut_vals self, tt)), tt)

    abbrev Post : Val → SProp 𝓤
    Post = (walk_of 𝓛 F.ended stayed (F.clauses 𝓛 at_mem run)).post bound

    walk : ent 𝓤 (on_entry 𝓛 F.ended.signature (κ, tt) (q, tt) (self, tt) (mut_vals self, tt)) (WpFn 𝓤 H 𝓣.C 𝓣.Λ code.function (mut_vals self) Post)
    walk =
        let vs = mut_vals self in
        qed 𝓛 ((‵ (flft κ q) ⊛ ‵ ftrue) ∷ ‵ (owns (MutRef (named 0) κ Handle ∷ []) (self, tt) (vs, tt)) ∷ []) ∵
        enter ! 𝓣.C 𝓣.Λ code.function vs _ $ alloc_all ! (λ l. pass_all ! refl ((tt, tt), tt) $
        move ! (1 ∷ []) $ fsplit ! $ fsplit3 ! $ drop ! $ move ! (3 ∷ []) $ split ! $ move ! (2 ∷ 3 ∷ 0 ∷ []) $
        opens ! tt Handle {h = h} b o (λ us. move ! (1 ∷ []) $ peeks ! Handle _ (shows 𝓛 Handle) h us (λ is. peeks ! Handle _ shows_answers h us (λ ans. move ! (1 ∷ []) $
        let Cell = λ (ws : List Val). ‵ (cell_at full_share Handle.mir ws b o) in
        let word = lowers.val_is h us is in
        rewrite ! 0 Cell word refl $
        sets ! (of_opd ! (load ! (through ! refl (fld ! refl (stop !))) (look_in ! 0 (sub ! 0 refl (whole !))))) refl (typed h.at) $
        sets ! (same ! (bin ! (get ! refl) (lit ! tt) (tests_null h.at ans.0)) ans.1) refl (tt, tt) $
        sets ! (same ! (un ! (get ! refl) tt) (twice h.held)) refl (tt, tt) $
        rewrite ! 0 Cell (sym word) refl $ closes ! tt Handle h us b o $
        returns ! (look_at ! 0 refl) $ free_all ! refl $ keep ! (0 ∷ 1 ∷ 2 ∷ []) $ feq_i ! (List Val) vs vs refl $
        suffices ! _ (ends_at 𝓛 F.ended stayed (F.clauses 𝓛 at_mem run) bound (vbool h.held) h.held (h, tt) (tt, tt)) $ says_two ! (refl, refl) $
        group ! 3 $ nothing ! $ move ! (1 ∷ 0 ∷ []) $ join ! $ nothing ! $ move ! (2 ∷ 0 ∷ []) $ join ! $ frame ! $ frame ! $
        feq_i ! (List Val) (vbool h.held ∷ []) (vbool h.held ∷ []) refl $ done !))))

pub is_open_spec : {M : Type 1} → stated.statement M
unfolding tables_of
is_open_spec 𝓤 𝓛 𝓜 𝓡 wired =
    let 𝓣 : Tables 𝓤 𝓛.H = tables_of 𝓤 𝓛.H 𝓜 (tables 𝓤 𝓛.H 𝓜 𝓡 𝓡.env) in
    entered 𝓤 𝓛.H (triple_of 𝓛 F.signature (F.spec 𝓛 𝓜.mem 𝓡.returns)) 𝓣.C 𝓣.Λ #self code.function (code.unfolded 𝓤 𝓛.H 𝓜 𝓡 wired)
    (walk_Meets 𝓛 F.ended stayed (Goes-ref 𝓛 1 0 tt (plain (λ _. Handle)), tt) (F.clauses 𝓛 𝓜.mem 𝓡.returns) (WpFn 𝓤 𝓛.H 𝓣.C 𝓣.Λ code.function) (WpFn-mono 𝓤 𝓛.H 𝓛.laws 𝓣 code.function)
    (walked 𝓛 F.ended stayed (F.clauses 𝓛 𝓜.mem 𝓡.returns) (WpFn 𝓤 𝓛.H 𝓣.C 𝓣.Λ code.function) (λ κs. (mut_vals, tt)) (λ κs. (mut_Tells (named 0) κs.0 Handle, tt))
    (λ κs qs bounds a g are. via 𝓤 _ (fst∗ 𝓤 _ (emp 𝓤)) (walk 𝓛 𝓜.mem 𝓡.returns 𝓣 κs.0 qs.0 a.0.ref_ptr.0 a.0.ref_ptr.1 a.0.ghost_name a.0.now))))
