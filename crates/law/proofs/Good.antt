-- What holds of every state that the calls reach, with the history that led to it.
use Rattle.std.proofs.Common.{◌≡◌, ℕ, ◌+◌, ◌*◌, ◌<◌, ◌≤◌, Bool, true, false, ◌⊎◌, List, ◌∷◌, length, get_or, Some, None, Ok, Err, Option, sym, ap, ◌∙◌, subst, inl, inr, ⊎_elim}
use Rattle.debts.specs.declared.debt.Debt.{Debt}
use Rattle.frames.specs.Frames.{Frames}
use Rattle.sv39.specs.declared.access.Access.{Access}
use Rattle.sv39.specs.Address.{index, page}
use Rattle.sv39.specs.Layout.{bit}
use Rattle.tlb.specs.declared.way.Way.{Way}
use Rattle.tlb.specs.Ways.{way_of}
use Rattle.walker.specs.declared.walking.Translation.{Translation}
use Rattle.walker.specs.Walk.{walked}
use Rattle.machine.specs.declared.refusal.Refusal.{Refusal}
use Rattle.machine.specs.Pages.{is_page}
use Rattle.machine.specs.State.{State, root_of, hart_of, row_of}
use Rattle.law.specs.History.{Event, History, accepted, releases, PutSince, enters_by, sets_by, or_else, space_in, last_set, status_by, status_in, root_of_made, root_in, covers, SeenSince}
use Rattle.law.proofs.Places.{Place, low, Holder, in_leaf, in_debt, Standing, Tables}
use Rattle.law.proofs.Pools.{Sound}

-- a frame stands in the leaf of a page of a space
pub record LeafHome (at : ℕ → Place) (held : ℕ → Holder) (s p f : ℕ) : Type 0 where
  pub table : ℕ
  pub there : held f ≡ in_leaf table (index p 0)
  pub place : at table ≡ low s (index p 2) (index p 1)

-- a frame is owed by an open debt on a page of a space, on which a hart is not marked
pub record Late (slots : List (Option Debt)) (held : ℕ → Holder) (h s p f : ℕ) : Type 0 where
  pub slot : ℕ
  pub debt : Debt
  pub there : held f ≡ in_debt slot
  pub open_in : get_or slots slot None ≡ Some debt
  pub space : debt.of.space ≡ s
  pub at_page : debt.of.page ≡ p
  pub frame : debt.frame ≡ Some f
  pub late : bit debt.marks h ≡ false

-- a list gave a way: some walk of it for that page came to the way's frame and flags
pub record Gives (root : ℕ) (way : Way) (cells : List ℕ) : Type 0 where
  pub q : Access
  pub t : Translation
  pub same_page : page q.address ≡ way.of.page
  pub walk : walked cells root q ≡ Ok t
  pub frame : t.frame ≡ way.frame
  pub is : way ≡ way_of way.of.space way.of.page t.frame t.leaf.flags
  pub room : 512 * way.frame + 512 ≤ length cells

pub record WayGood (H : History) (slots : List (Option Debt)) (at : ℕ → Place) (held : ℕ → Holder) (h : ℕ) (way : Way) : Type 0 where
  pub paged : is_page way.of.page ≡ true
  pub home : LeafHome at held way.of.space way.of.page way.frame ⊎ Late slots held h way.of.space way.of.page way.frame
  pub root : ℕ
  pub rooted : root_in H way.of.space ≡ Some root
  pub seen : SeenSince (Gives root way) H h way.of.space way.of.page

pub record Good (H : History) (s : State) : Type 0 where
  pub at : ℕ → Place
  pub held : ℕ → Holder
  pub sound : Sound s.frames
  pub tables : Tables s.cells s.frames s.roots at held
  pub housed : (f t k : ℕ) → held f ≡ in_leaf t k → Standing (at t)
  pub enough : (s.count ≤ length s.harts) × (s.count ≤ length s.rows)
  pub owes : (n : ℕ) (d : Debt) (f : ℕ) → get_or s.debts.slots n None ≡ Some d → d.frame ≡ Some f → held f ≡ in_debt n
  pub owed_by : (f n : ℕ) → held f ≡ in_debt n → (d : Debt) × ((get_or s.debts.slots n None ≡ Some d) × (d.frame ≡ Some f))
  pub ways : (h i : ℕ) (way : Way) → get_or (row_of s h) i None ≡ Some way → WayGood H s.debts.slots at held h way
  pub unmade : (h i : ℕ) → s.count ≤ h → get_or (row_of s h) i None ≡ None
  pub leaf_put_is : (f t k sp i j p : ℕ) → held f ≡ in_leaf t k → at t ≡ low sp i j → is_page p ≡ true → index p 2 ≡ i → index p 1 ≡ j → index p 0 ≡ k → PutSince H sp p f
  pub debt_put : (n : ℕ) (d : Debt) (f : ℕ) → get_or s.debts.slots n None ≡ Some d → d.frame ≡ Some f → PutSince H d.of.space d.of.page f
  pub spaces : (h : ℕ) → h < s.count → (hart_of s h).space ≡ space_in H h
  pub status : (h : ℕ) → h < s.count → ◌≡◌ {A = Bool × Bool} ((hart_of s h).sum, (hart_of s h).mxr) (status_in H h)
  pub roots : (sp : ℕ) → root_of s sp ≡ root_in H sp
  pub stands : (h sp : ℕ) → h < s.count → (hart_of s h).space ≡ Some sp → (r : ℕ) × (root_of s sp ≡ Some r)

-- an event that neither releases nor fences, enters, sets nor makes a space
pub record Quiet (e : Event) : Type 0 where
  pub frees : (f : ℕ) → releases e f ≡ false
  pub fences : (h sp p : ℕ) → covers e h sp p ≡ false
  pub enters : (h : ℕ) → accepted None (λ a. enters_by e.call h) e.answer ≡ None
  pub sets : (h : ℕ) → accepted None (λ a. sets_by e.call h) e.answer ≡ None
  pub makes : (sp : ℕ) → root_of_made e sp ≡ None

-- what was put, seen, entered, set and made stays so over a quiet event
module _ (e : Event) (H : History) (quiet : Quiet e) where
  pub put_later : (sp p f : ℕ) → PutSince H sp p f → PutSince (e ∷ H) sp p f
  put_later sp p f x = inr (quiet.frees f, x)

  pub seen_later : (P : List ℕ → Type 0) (h sp p : ℕ) → SeenSince P H h sp p → SeenSince P (e ∷ H) h sp p
  seen_later P h sp p x = (quiet.fences h sp p, inr x)

  pub space_later : (h : ℕ) → space_in (e ∷ H) h ≡ space_in H h
  space_later h = ap (λ (o : Option ℕ). or_else o (space_in H h)) (quiet.enters h)

  pub status_later : (h : ℕ) → status_in (e ∷ H) h ≡ status_in H h
  status_later h = ap (λ (o : Option (Bool × Bool)). status_by (or_else o (last_set H h))) (quiet.sets h)

  pub root_later : (sp : ℕ) → root_in (e ∷ H) sp ≡ root_in H sp
  root_later sp = ap (λ (o : Option ℕ). or_else o (root_in H sp)) (quiet.makes sp)

  pub way_later : (slots : List (Option Debt)) (at : ℕ → Place) (held : ℕ → Holder) (h : ℕ) (way : Way) → WayGood H slots at held h way → WayGood (e ∷ H) slots at held h way
  way_later slots at held h way w =
      record {
        paged = w.paged;
        home = w.home;
        root = w.root;
        rooted = root_later way.of.space ∙ w.rooted;
        seen = seen_later (Gives w.root way) h way.of.space way.of.page w.seen;
      }

  unfoldable pub later : (s : State) → Good H s → Good (e ∷ H) s
  later s g =
      record {
        at = g.at;
        held = g.held;
        sound = g.sound;
        tables = g.tables;
        housed = g.housed;
        enough = g.enough;
        owes = g.owes;
        owed_by = g.owed_by;
        ways = λ h i way x. way_later s.debts.slots g.at g.held h way (g.ways h i way x);
        unmade = g.unmade;
        leaf_put_is = λ f t k sp i j p a b c d x y. put_later sp p f (g.leaf_put_is f t k sp i j p a b c d x y);
        debt_put = λ n d f a b. put_later d.of.space d.of.page f (g.debt_put n d f a b);
        spaces = λ h l. g.spaces h l ∙ sym (space_later h);
        status = λ h l. g.status h l ∙ sym (status_later h);
        roots = λ sp. g.roots sp ∙ sym (root_later sp);
        stands = g.stands;
      }

-- a refused call is quiet
pub refused_quiet : (e : Event) (refusal : Refusal) → e.answer ≡ Err refusal → Quiet e
refused_quiet e refusal r =
    record {
      frees = λ f. ap (accepted false _) r;
      fences = λ h sp p. ap (accepted false _) r;
      enters = λ h. ap (accepted None _) r;
      sets = λ h. ap (accepted None _) r;
      makes = λ sp. ap (accepted None _) r;
    }

-- The tables, the frames and the memory move, and every table keeps its place: frames stay where they are held.
unfoldable pub moved : (H : History) (s : State) (g : Good H s) (cells : List ℕ) (v : Frames) (at' : ℕ → Place) → Tables cells v s.roots at' g.held → Sound v → ((t : ℕ) → Standing (g.at t) → at' t ≡ g.at t) → Good H (record { cells = cells; frames = v; roots = s.roots; debts = s.debts; harts = s.harts; rows = s.rows; count = s.count; last = s.last })
moved H s g cells v at' tables sound kept =
    let home_kept : (sp p f : ℕ) → LeafHome g.at g.held sp p f → LeafHome at' g.held sp p f =
    λ sp p f h. record { table = h.table; there = h.there; place = kept h.table (g.housed f h.table (index p 0) h.there) ∙ h.place } in
    record {
      at = at';
      held = g.held;
      sound = sound;
      tables = tables;
      housed = λ f t k x. subst Standing (sym (kept t (g.housed f t k x))) (g.housed f t k x);
      enough = g.enough;
      owes = g.owes;
      owed_by = g.owed_by;
      ways = λ h i way x.
          let w = g.ways h i way x in
          record {
            paged = w.paged;
            home = ⊎_elim (λ y. inl (home_kept way.of.space way.of.page way.frame y)) (λ y. inr y) w.home;
            root = w.root;
            rooted = w.rooted;
            seen = w.seen;
          };
      unmade = g.unmade;
      leaf_put_is = λ f t k sp i j p a b. g.leaf_put_is f t k sp i j p a (sym (kept t (g.housed f t k a)) ∙ b);
      debt_put = g.debt_put;
      spaces = g.spaces;
      status = g.status;
      roots = g.roots;
      stands = g.stands;
    }
