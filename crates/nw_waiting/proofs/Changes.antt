-- The indexes and the pairs after each call.
use Rattle.nw_waiting.proofs.Words.{◌≡◌, ◌∙◌, true, false, cond, not, ◌&&◌, ◌||◌, List, [], ◌∷◌, ◌++◌, None, sym, ap, subst, list_any, IsStrictlySortedBy, lookup, keys_of, is_at, eq_by_cmp, contains, from_list, insert, Digest, Wanted, ListsExactly, digest_cmp, wanted_cmp, digests_total, same_digest, one_wanted, wanted_total}
use Rattle.std.specs.List.{IsDistinct}
use Rattle.std.proofs.lemmas.Map.Keys.{IsDistinct-from_sorted}
use Rattle.nw_waiting.specs.Index.{HaveSamePairs, pairs_in}
use Rattle.nw_waiting.specs.Lists.{AreFilled, list_of}
use Rattle.nw_waiting.specs.Pairs.{AreHolders, AreMissing, AreWanted, Lacks, Pairs, without_holder, without_wanted}
use Rattle.nw_waiting.proofs.Ascending.{none}
use Rattle.nw_waiting.proofs.Members.{ascending_put, member_added, member_put, once_added}
use Rattle.nw_waiting.proofs.Relation.{are_holders, are_missing, are_wanted, contains_added, contains_in, contains_without_holder, contains_without_wanted, each_taken, filled_taken, is_pair, member_taken, nobody, same_added, same_satisfied, same_unwanted, view_is}

module _ {L M : Type 0} (items : L → List Digest) (missing : M → List Wanted) where
  abbrev holders_at : List (Wanted × L) → Wanted → List Digest
  holders_at hs w = list_of items (lookup (is_at (wanted_cmp w)) hs)

  abbrev missing_at : List (Digest × M) → Digest → List Wanted
  missing_at ls h = list_of missing (lookup (is_at (digest_cmp h)) ls)

  -- empty indexes have the same pairs
  pub nothing : (hs : List (Wanted × L)) (ls : List (Digest × M)) → hs ≡ [] → ls ≡ [] → IsStrictlySortedBy wanted_cmp (keys_of hs) → HaveSamePairs items missing hs ls
  nothing hs ls no_h no_l sorted = record {
    same = λ w h. ap (λ es. list_any (eq_by_cmp digest_cmp h) (holders_at es w)) no_h ∙ sym (ap (λ es. list_any (eq_by_cmp wanted_cmp w) (missing_at es h)) no_l);
    holders_once = λ w. subst (λ es. IsDistinct (eq_by_cmp digest_cmp) (holders_at es w)) (sym no_h) (nobody (eq_by_cmp digest_cmp));
    missing_ascends = λ h. subst (λ es. IsStrictlySortedBy wanted_cmp (missing_at es h)) (sym no_l) (none wanted_cmp);
    filled = subst (λ es. AreFilled items (λ w. lookup (is_at (wanted_cmp w)) es)) (sym no_h) (λ w some. let no : false ≡ true = some in cc);
    ordered = sorted;
  }

  module _ (hs : List (Wanted × L)) (ls : List (Digest × M)) (r : HaveSamePairs items missing hs ls) (s : Pairs) (view : from_list (pairs_in items hs) ≡ s) where
    pub member : (w : Wanted) (h : Digest) → list_any (eq_by_cmp digest_cmp h) (holders_at hs w) ≡ contains s (w, h)
    member w h = sym (contains_in items hs r.ordered w h) ∙ ap (λ t. contains t (w, h)) view

    pub missing_member : (w : Wanted) (h : Digest) → list_any (eq_by_cmp wanted_cmp w) (missing_at ls h) ≡ contains s (w, h)
    missing_member w h = sym (r.same w h) ∙ member w h

    -- the lists that a lookup finds
    pub holders_of : (wanted : Wanted) (xs : List Digest) → xs ≡ holders_at hs wanted → AreHolders s wanted xs
    holders_of wanted xs is = subst (AreHolders s wanted) (sym is) (are_holders s wanted (holders_at hs wanted) (member wanted) (r.holders_once wanted))

    pub missing_once : (h : Digest) → IsDistinct (eq_by_cmp wanted_cmp) (missing_at ls h)
    missing_once h = IsDistinct-from_sorted wanted_cmp (missing_at ls h) (r.missing_ascends h)

    pub missing_of : (holder : Digest) (xs : List Wanted) → xs ≡ missing_at ls holder → AreMissing s holder xs
    missing_of holder xs is = subst (AreMissing s holder) (sym is) (are_missing s holder (missing_at ls holder) (λ w. missing_member w holder) (missing_once holder))

    pub missing_listed : (holder : Digest) (xs : List Wanted) → xs ≡ missing_at ls holder → ListsExactly wanted_cmp (Lacks s holder) xs
    missing_listed holder xs is = record { exactly = (missing_of holder xs is).exactly; ascending = subst (IsStrictlySortedBy wanted_cmp) (sym is) (r.missing_ascends holder) }

    pub wanted_of : AreWanted s (keys_of hs)
    wanted_of = are_wanted items hs s member r.filled r.ordered

    module _ (hs' : List (Wanted × L)) (ls' : List (Digest × M)) where
      -- no list changed
      pub kept_view : ((w : Wanted) → holders_at hs' w ≡ holders_at hs w) → IsStrictlySortedBy wanted_cmp (keys_of hs') → from_list (pairs_in items hs') ≡ s
      kept_view same sorted = view_is items hs' sorted s (λ w h. ap (list_any (eq_by_cmp digest_cmp h)) (same w) ∙ member w h)

      pub kept : ((w : Wanted) → holders_at hs' w ≡ holders_at hs w) → ((h : Digest) → missing_at ls' h ≡ missing_at ls h) → AreFilled items (λ w. lookup (is_at (wanted_cmp w)) hs') → IsStrictlySortedBy wanted_cmp (keys_of hs') → HaveSamePairs items missing hs' ls'
      kept same_h same_l filled sorted = record {
        same = λ w h. ap (list_any (eq_by_cmp digest_cmp h)) (same_h w) ∙ r.same w h ∙ ap (list_any (eq_by_cmp wanted_cmp w)) (sym (same_l h));
        holders_once = λ w. subst (IsDistinct (eq_by_cmp digest_cmp)) (sym (same_h w)) (r.holders_once w);
        missing_ascends = λ h. subst (IsStrictlySortedBy wanted_cmp) (sym (same_l h)) (r.missing_ascends h);
        filled = filled;
        ordered = sorted;
      }

      -- a pair is added
      module _ (wanted : Wanted) (holder : Digest) (absent : list_any (eq_by_cmp wanted_cmp wanted) (missing_at ls holder) ≡ false)
          (put_h : (q : Wanted) → holders_at hs' q ≡ cond (eq_by_cmp wanted_cmp wanted q) (holders_at hs q ++ holder ∷ []) (holders_at hs q)) where
        pub added_view : IsStrictlySortedBy wanted_cmp (keys_of hs') → from_list (pairs_in items hs') ≡ insert s (wanted, holder)
        added_view sorted = view_is items hs' sorted _ (λ w h.
            member_added wanted_cmp digests_total (holders_at hs) (holders_at hs') wanted holder put_h w h ∙ ap (λ b. b || is_pair wanted holder w h) (member w h) ∙ contains_added s wanted w holder h)

        once_put : (w : Wanted) → IsDistinct (eq_by_cmp digest_cmp) (holders_at hs' w)
        once_put = once_added wanted_cmp digests_total (holders_at hs) (holders_at hs') wanted holder put_h r.holders_once
            (λ q e. r.same q holder ∙ ap (λ w. list_any (eq_by_cmp wanted_cmp w) (missing_at ls holder)) (sym (one_wanted wanted q e)) ∙ absent)

        pub added : (ys : List Wanted) → ((w : Wanted) → list_any (eq_by_cmp wanted_cmp w) ys ≡ (list_any (eq_by_cmp wanted_cmp w) (missing_at ls holder) || eq_by_cmp wanted_cmp w wanted)) → IsStrictlySortedBy wanted_cmp ys
            → ((q : Digest) → missing_at ls' q ≡ cond (eq_by_cmp digest_cmp holder q) ys (missing_at ls q)) → AreFilled items (λ w. lookup (is_at (wanted_cmp w)) hs') → IsStrictlySortedBy wanted_cmp (keys_of hs') → HaveSamePairs items missing hs' ls'
        added ys any ascends put_l filled sorted = record {
          same = λ w h.
              same_added wanted w holder h _ _ _ _ (member_added wanted_cmp digests_total (holders_at hs) (holders_at hs') wanted holder put_h w h)
              (member_put digest_cmp wanted_total (missing_at ls) (missing_at ls') holder wanted ys put_l (λ q e. ap (missing_at ls) (same_digest holder q e)) any h w) (r.same w h);
          holders_once = once_put;
          missing_ascends = ascending_put digest_cmp wanted_total (missing_at ls) (missing_at ls') holder wanted ys put_l ascends r.missing_ascends;
          filled = filled;
          ordered = sorted;
        }

      -- the list of a parent's holders is removed
      module _ (wanted : Wanted) (gone : (q : Wanted) → lookup (is_at (wanted_cmp q)) hs' ≡ cond (eq_by_cmp wanted_cmp wanted q) None (lookup (is_at (wanted_cmp q)) hs)) where
        left_member : (w : Wanted) (h : Digest) → list_any (eq_by_cmp digest_cmp h) (holders_at hs' w) ≡ (list_any (eq_by_cmp digest_cmp h) (holders_at hs w) && not (eq_by_cmp wanted_cmp wanted w))
        left_member w h = member_taken wanted_cmp (eq_by_cmp digest_cmp) items (λ q. lookup (is_at (wanted_cmp q)) hs) (λ q. lookup (is_at (wanted_cmp q)) hs') wanted gone w h

        pub satisfied_view : IsStrictlySortedBy wanted_cmp (keys_of hs') → from_list (pairs_in items hs') ≡ without_wanted s wanted
        satisfied_view sorted = view_is items hs' sorted _ (λ w h. left_member w h ∙ ap (λ b. b && not (eq_by_cmp wanted_cmp wanted w)) (member w h) ∙ contains_without_wanted s wanted w h)

        pub satisfied : (xs : List Digest) → xs ≡ holders_at hs wanted
            → ((h : Digest) (w : Wanted) → list_any (eq_by_cmp wanted_cmp w) (missing_at ls' h) ≡ (list_any (eq_by_cmp wanted_cmp w) (missing_at ls h) && not (list_any (eq_by_cmp digest_cmp h) xs && eq_by_cmp wanted_cmp w wanted)))
            → ((h : Digest) → IsStrictlySortedBy wanted_cmp (missing_at ls' h)) → IsStrictlySortedBy wanted_cmp (keys_of hs') → HaveSamePairs items missing hs' ls'
        satisfied xs is took ascends sorted = record {
          same = λ w h.
              left_member w h ∙ same_satisfied wanted w h (λ v d. list_any (eq_by_cmp digest_cmp d) (holders_at hs v)) (list_any (eq_by_cmp wanted_cmp w) (missing_at ls h)) (r.same w h)
              ∙ ap (λ ys. list_any (eq_by_cmp wanted_cmp w) (missing_at ls h) && not (list_any (eq_by_cmp digest_cmp h) ys && eq_by_cmp wanted_cmp w wanted)) (sym is) ∙ sym (took h w);
          holders_once = each_taken wanted_cmp (eq_by_cmp digest_cmp) items (λ q. lookup (is_at (wanted_cmp q)) hs) (λ q. lookup (is_at (wanted_cmp q)) hs') wanted gone (IsDistinct (eq_by_cmp digest_cmp)) (nobody (eq_by_cmp digest_cmp)) r.holders_once;
          missing_ascends = ascends;
          filled = filled_taken wanted_cmp (eq_by_cmp digest_cmp) items (λ q. lookup (is_at (wanted_cmp q)) hs) (λ q. lookup (is_at (wanted_cmp q)) hs') wanted gone r.filled;
          ordered = sorted;
        }

      -- the list of a holder's missing parents is removed
      module _ (holder : Digest) (xs : List Wanted) (is : xs ≡ missing_at ls holder)
          (took : (w : Wanted) (h : Digest) → list_any (eq_by_cmp digest_cmp h) (holders_at hs' w) ≡ (list_any (eq_by_cmp digest_cmp h) (holders_at hs w) && not (list_any (eq_by_cmp wanted_cmp w) xs && eq_by_cmp digest_cmp h holder))) where
        rest_member : (w : Wanted) (h : Digest) → list_any (eq_by_cmp digest_cmp h) (holders_at hs' w) ≡ (list_any (eq_by_cmp wanted_cmp w) (missing_at ls h) && not (eq_by_cmp digest_cmp holder h))
        rest_member w h =
            took w h ∙ ap (λ ys. list_any (eq_by_cmp digest_cmp h) (holders_at hs w) && not (list_any (eq_by_cmp wanted_cmp w) ys && eq_by_cmp digest_cmp h holder)) is
            ∙ same_unwanted holder h w (λ d v. list_any (eq_by_cmp wanted_cmp v) (missing_at ls d)) (list_any (eq_by_cmp digest_cmp h) (holders_at hs w)) (r.same w h)

        pub unwanted_view : IsStrictlySortedBy wanted_cmp (keys_of hs') → from_list (pairs_in items hs') ≡ without_holder s holder
        unwanted_view sorted = view_is items hs' sorted _ (λ w h. rest_member w h ∙ ap (λ b. b && not (eq_by_cmp digest_cmp holder h)) (missing_member w h) ∙ contains_without_holder s holder h w)

        pub unwanted : ((q : Digest) → lookup (is_at (digest_cmp q)) ls' ≡ cond (eq_by_cmp digest_cmp holder q) None (lookup (is_at (digest_cmp q)) ls))
            → ((w : Wanted) → IsDistinct (eq_by_cmp digest_cmp) (holders_at hs' w)) → AreFilled items (λ w. lookup (is_at (wanted_cmp w)) hs') → IsStrictlySortedBy wanted_cmp (keys_of hs') → HaveSamePairs items missing hs' ls'
        unwanted gone once filled sorted = record {
          same = λ w h. rest_member w h ∙ sym (member_taken digest_cmp (eq_by_cmp wanted_cmp) missing (λ q. lookup (is_at (digest_cmp q)) ls) (λ q. lookup (is_at (digest_cmp q)) ls') holder gone h w);
          holders_once = once;
          missing_ascends = each_taken digest_cmp (eq_by_cmp wanted_cmp) missing (λ q. lookup (is_at (digest_cmp q)) ls) (λ q. lookup (is_at (digest_cmp q)) ls') holder gone (IsStrictlySortedBy wanted_cmp) (none wanted_cmp) r.missing_ascends;
          filled = filled;
          ordered = sorted;
        }
