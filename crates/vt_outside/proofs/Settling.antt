-- A new file beside another, on its way into the place of it.
use Rattle.std.proofs.Common.{◌≡◌, ◌≢◌, ◌⊎◌, inl, inr, ◌∙◌, ◌∷◌, ◌++◌, ℕ, List, [], Option, None, Some, Result, Ok, Err, IsOk, IsErr, IfSome, Bool, bytes_eq, ap, sym, subst, refl, append_assoc, true, false}
use Rattle.std.specs.List.{AllByRecursion}
use Rattle.std.specs.Fs.{permissions_mode}
use Rattle.std.proofs.lemmas.Slice.Eq.{bytes_eq-Decides}
use Rattle.std.specs.declared.fs.permissions.Permissions.{Permissions}
use Rattle.vt_outside.specs.Disk.{DiskMeaning, HasBytes, IsOther, IsPlain, KeepsPermissions, MakesPart, MakesWhole, Names, Node, OrNothing, OrTouches, OthersKept, Passes, Permits, Removes, Renames, StillTold, Touches, WritesOver}
use Rattle.vt_outside.specs.Replacing.{AreOf, HasOldOrNew, Keeps, Leaves, Places, PlacesBytes, Settles, SettlesBy, TakesPlace, WritesFile}

-- ---- moments

all_append : (P : Names → Type 0) (xs ys : List Names) → AllByRecursion P xs → AllByRecursion P ys → AllByRecursion P (xs ++ ys)
all_append P [] ys all more = more
all_append P (x ∷ xs) ys all more = (all.0, all_append P xs ys all.1 more)

all_weaker : (P Q : Names → Type 0) (xs : List Names) → ((names : Names) → P names → Q names) → AllByRecursion P xs → AllByRecursion Q xs
all_weaker P Q [] weaker all = tt
all_weaker P Q (x ∷ xs) weaker all = (weaker x all.0, all_weaker P Q xs weaker all.1)

passes_none : (P : Names → Type 0) (old : DiskMeaning) → P old.now → Passes P old old
passes_none P old now = record { since = []; moments = refl; each = tt; last = now }

passes_more : (P : Names → Type 0) (old mid new : DiskMeaning) → Passes P old mid → Passes P mid new → Passes P old new
passes_more P old mid new first second = record {
  since = second.since ++ first.since;
  moments = second.moments ∙ ap (λ t. second.since ++ t) first.moments ∙ sym (append_assoc second.since first.since old.moments);
  each = all_append P second.since first.since second.each first.each;
  last = second.last;
}

passes_weaker : (P Q : Names → Type 0) (old new : DiskMeaning) → ((names : Names) → P names → Q names) → Passes P old new → Passes Q old new
passes_weaker P Q old new weaker passes = record {
  since = passes.since;
  moments = passes.moments;
  each = all_weaker P Q passes.since weaker passes.each;
  last = weaker new.now passes.last;
}

-- ---- the name keeps what it has

keeps_at_first : (name bytes beside : List ℕ) (old : DiskMeaning) → Keeps name bytes beside old old
keeps_at_first name bytes beside old = record {
  stays = refl;
  others = λ other q. refl;
  passes = passes_none (HasOldOrNew old.now name bytes) old (inl refl);
}

-- one call more that touches the new file alone
keeps_more : (name bytes beside : List ℕ) (old mid new : DiskMeaning) → beside ≢ name → Keeps name bytes beside old mid → Touches beside mid new
    → Keeps name bytes beside old new
keeps_more name bytes beside old mid new apart keeps touches = record {
  stays = touches.last name (λ e. apart (sym e)) ∙ keeps.stays;
  others = λ other q. touches.last other q ∙ keeps.others other q;
  passes = passes_more (HasOldOrNew old.now name bytes) old mid new keeps.passes
      (passes_weaker (OthersKept mid.now beside) (HasOldOrNew old.now name bytes) mid new (λ names kept. inl (kept name (λ e. apart (sym e)) ∙ keeps.stays)) touches);
}

kept_node : (name bytes beside : List ℕ) (old new : DiskMeaning) → beside ≢ name → old.now beside ≡ None → Keeps name bytes beside old new
    → (other : List ℕ) (node : Node) → old.now other ≡ Some node → new.now other ≡ Some node
kept_node name bytes beside old new apart free keeps other node is =
    keeps.others other (λ e. cc (sym is ∙ ap old.now e ∙ free)) ∙ is

leaves : (name bytes beside : List ℕ) (old new : DiskMeaning) → beside ≢ name → old.now beside ≡ None → Keeps name bytes beside old new → Leaves name bytes old new
leaves name bytes beside old new apart free keeps = record {
  stays = keeps.stays;
  kept = kept_node name bytes beside old new apart free keeps;
  one = (beside, keeps.others);
  passes = keeps.passes;
}

pub leaves_all : (name bytes : List ℕ) (old : DiskMeaning) → Leaves name bytes old old
leaves_all name bytes old = record {
  stays = refl;
  kept = λ other node is. is;
  one = (name, λ other q. refl);
  passes = passes_none (HasOldOrNew old.now name bytes) old (inl refl);
}

-- ---- the new file takes the name

-- its permissions are set, or not
permitted : {T E : Type 0} (r : Result T E) (name bytes beside : List ℕ) (permissions : ℕ) (old new : DiskMeaning) → beside ≢ name
    → OrTouches r beside (Permits beside permissions) old new → Keeps name bytes beside old new
permitted (Ok x) name bytes beside permissions old new apart does =
    keeps_more name bytes beside old old new apart (keeps_at_first name bytes beside old) does.touches
permitted (Err e) name bytes beside permissions old new apart does =
    keeps_more name bytes beside old old new apart (keeps_at_first name bytes beside old) does

has_bytes_along : (x y : Option Node) (bytes : List ℕ) → y ≡ x → HasBytes x bytes → HasBytes y bytes
has_bytes_along x y bytes is has = subst (λ z. HasBytes z bytes) (sym is) has

-- behind calls that touched the new file alone, which has these bytes and permissions
renamed : (name bytes beside : List ℕ) (old mid new : DiskMeaning) → beside ≢ name → Keeps name bytes beside old mid → HasBytes (mid.now beside) bytes
    → KeepsPermissions (old.now name) (mid.now beside) → Renames beside name mid new → TakesPlace name bytes beside old new
renamed name bytes beside old mid new apart keeps has permits renames =
    let there : HasBytes (new.now name) bytes = has_bytes_along (mid.now beside) (new.now name) bytes renames.there has in
    record {
      there = there;
      permissions = subst (λ z. KeepsPermissions (old.now name) z) (sym renames.there) permits;
      gone = renames.gone;
      others = λ other q r. renames.others other q r ∙ keeps.others other q;
      passes = passes_more (HasOldOrNew old.now name bytes) old mid new keeps.passes
          (record { since = new.now ∷ []; moments = renames.moments; each = (inr there, tt); last = inr there });
    }

renames_or_not : {T E : Type 0} (r : Result T E) (name bytes beside : List ℕ) (old mid new : DiskMeaning) → beside ≢ name → Keeps name bytes beside old mid
    → HasBytes (mid.now beside) bytes → KeepsPermissions (old.now name) (mid.now beside) → OrNothing r (Renames beside name) mid new
    → Places r name bytes beside old new
renames_or_not (Ok x) name bytes beside old mid new apart keeps has permits does = renamed name bytes beside old mid new apart keeps has permits does
renames_or_not (Err e) name bytes beside old mid new apart keeps has permits does = subst (λ d. Keeps name bytes beside old d) (sym does) keeps

-- with no permissions to keep
pub places_new : {T E : Type 0} (r : Result T E) (name beside : List ℕ) (old new : Option DiskMeaning)
    → StillTold old new (OrNothing r (Renames beside name)) → StillTold old new (PlacesBytes r name beside None)
places_new r name beside None new does = tt
places_new r name beside (Some old) None does = absurd does
places_new r name beside (Some old) (Some new) does = λ bytes apart has none.
    renames_or_not r name bytes beside old old new apart (keeps_at_first name bytes beside old) has
    (subst (λ z. KeepsPermissions z (old.now beside)) (sym none) tt) does

keeps_permissions : (permissions : ℕ) (x : Option Node) (node : Node) → IsPlain x permissions → KeepsPermissions x (Some (record node { permissions = permissions }))
keeps_permissions permissions None node is = absurd is
keeps_permissions permissions (Some old) node is = sym is.1

has_node : (x : Option Node) (bytes : List ℕ) → HasBytes x bytes → (node : Node) × (x ≡ Some node) × (node.bytes ≡ bytes)
has_node None bytes has = absurd has
has_node (Some node) bytes has = (node, refl, has)

-- with these permissions, which were set before
places_by : {T E : Type 0} (r : Result T E) (name bytes beside : List ℕ) (permissions : ℕ) (old mid new : DiskMeaning) → beside ≢ name
    → HasBytes (old.now beside) bytes → IsPlain (old.now name) permissions → Permits beside permissions old mid
    → OrNothing r (Renames beside name) mid new → Places r name bytes beside old new
places_by r name bytes beside permissions old mid new apart has is permits does =
    let (node, there, same) = has_node (old.now beside) bytes has in
    let now : mid.now beside ≡ Some (record node { permissions = permissions }) = permits.there node there in
    renames_or_not r name bytes beside old mid new apart
    (keeps_more name bytes beside old old mid apart (keeps_at_first name bytes beside old) permits.touches)
    (has_bytes_along (Some (record node { permissions = permissions })) (mid.now beside) bytes now same)
    (subst (λ z. KeepsPermissions (old.now name) z) (sym now) (keeps_permissions permissions (old.now name) node is)) does

permits_if_ok : {T E : Type 0} (r : Result T E) (name : List ℕ) (permissions : ℕ) (old new : DiskMeaning) → IsOk r
    → OrTouches r name (Permits name permissions) old new → Permits name permissions old new
permits_if_ok (Ok x) name permissions old new done does = does
permits_if_ok (Err e) name permissions old new done does = absurd (cc done)

pub places_permitted : {T E S F : Type 0} (set : Result S F) (r : Result T E) (name beside : List ℕ) (permissions : Permissions) (old mid new : Option DiskMeaning)
    → IsOk set → StillTold old mid (OrTouches set beside (Permits beside (permissions_mode permissions)))
    → StillTold mid new (OrNothing r (Renames beside name)) → StillTold old new (PlacesBytes r name beside (Some permissions))
places_permitted set r name beside permissions None mid new done permits does = tt
places_permitted set r name beside permissions (Some old) None new done permits does = absurd permits
places_permitted set r name beside permissions (Some old) (Some mid) None done permits does = absurd does
places_permitted set r name beside permissions (Some old) (Some mid) (Some new) done permits does = λ bytes apart has is.
    places_by r name bytes beside (permissions_mode permissions) old mid new apart has is
    (permits_if_ok set beside (permissions_mode permissions) old mid done permits) does

-- a call that failed kept the name
failed_keeps : {T E : Type 0} (r : Result T E) (name bytes beside : List ℕ) (old new : DiskMeaning) → IsErr r → Keeps name bytes beside old new
    → Places r name bytes beside old new
failed_keeps (Ok x) name bytes beside old new failed keeps = absurd (cc failed)
failed_keeps (Err e) name bytes beside old new failed keeps = keeps

failed_kept : {T E : Type 0} (r : Result T E) (name bytes beside : List ℕ) (old new : DiskMeaning) → IsErr r → Places r name bytes beside old new
    → Keeps name bytes beside old new
failed_kept (Ok x) name bytes beside old new failed places = absurd (cc failed)
failed_kept (Err e) name bytes beside old new failed places = places

failed_leaves : {T E : Type 0} (r : Result T E) (name bytes : List ℕ) (old new : DiskMeaning) → IsErr r → Leaves name bytes old new
    → Settles r name bytes old new
failed_leaves (Ok x) name bytes old new failed left = absurd (cc failed)
failed_leaves (Err e) name bytes old new failed left = left

-- or they could not be set
pub places_unpermitted : {T E S F : Type 0} (set : Result S F) (r : Result T E) (name beside : List ℕ) (permissions : Permissions) (old new : Option DiskMeaning)
    → IsErr r → StillTold old new (OrTouches set beside (Permits beside (permissions_mode permissions)))
    → StillTold old new (PlacesBytes r name beside (Some permissions))
places_unpermitted set r name beside permissions None new failed does = tt
places_unpermitted set r name beside permissions (Some old) None failed does = absurd does
places_unpermitted set r name beside permissions (Some old) (Some new) failed does = λ bytes apart has is.
    failed_keeps r name bytes beside old new failed (permitted set name bytes beside (permissions_mode permissions) old new apart does)

-- ---- where that failed, the new file is removed, or not

removed : {T E : Type 0} (r : Result T E) (name bytes beside : List ℕ) (old mid new : DiskMeaning) → beside ≢ name → Keeps name bytes beside old mid
    → OrNothing r (Removes beside) mid new → Keeps name bytes beside old new
removed (Ok x) name bytes beside old mid new apart keeps does = keeps_more name bytes beside old mid new apart keeps does.touches
removed (Err e) name bytes beside old mid new apart keeps does = subst (λ d. Keeps name bytes beside old d) (sym does) keeps

pub places_removed : {T E S F : Type 0} (r : Result T E) (gone : Result S F) (name beside : List ℕ) (permissions : Option Permissions)
    (old mid new : Option DiskMeaning) → IsErr r → StillTold old mid (PlacesBytes r name beside permissions)
    → StillTold mid new (OrNothing gone (Removes beside)) → StillTold old new (PlacesBytes r name beside permissions)
places_removed r gone name beside permissions None mid new failed places removes = tt
places_removed r gone name beside permissions (Some old) None new failed places removes = absurd places
places_removed r gone name beside permissions (Some old) (Some mid) None failed places removes = absurd removes
places_removed r gone name beside permissions (Some old) (Some mid) (Some new) failed places removes = λ bytes apart has is.
    failed_keeps r name bytes beside old new failed (removed gone name bytes beside old mid new apart
    (failed_kept r name bytes beside old mid failed (places bytes apart has is)) removes)

-- ---- from the first call on

-- nothing has changed yet
abbrev pub Still : Option DiskMeaning → Option DiskMeaning → Type 0
Still old new = StillTold old new (λ x y. y ≡ x)

-- a new file has some of the bytes, and is removed, or not
part_removed : {S F : Type 0} (r : Result S F) (name bytes beside : List ℕ) (old mid new : DiskMeaning) → beside ≢ name → MakesPart beside old mid
    → OrNothing r (Removes beside) mid new → Leaves name bytes old new
part_removed r name bytes beside old mid new apart makes removes = leaves name bytes beside old new apart makes.free
    (removed r name bytes beside old mid new apart
    (keeps_more name bytes beside old old mid apart (keeps_at_first name bytes beside old) makes.touches) removes)

pub settles_part : {T E S F : Type 0} (r : Result T E) (gone : Result S F) (name bytes beside : List ℕ) (permissions : Option Permissions)
    (old at mid new : Option DiskMeaning) → IsErr r → beside ≢ name → Still old at → StillTold at mid (MakesPart beside)
    → StillTold mid new (OrNothing gone (Removes beside)) → StillTold old new (SettlesBy r name bytes permissions)
settles_part r gone name bytes beside permissions None at mid new failed apart still makes removes = tt
settles_part r gone name bytes beside permissions (Some old) None mid new failed apart still makes removes = absurd still
settles_part r gone name bytes beside permissions (Some old) (Some at) None new failed apart still makes removes = absurd makes
settles_part r gone name bytes beside permissions (Some old) (Some at) (Some mid) None failed apart still makes removes = absurd removes
settles_part r gone name bytes beside permissions (Some old) (Some at) (Some mid) (Some new) failed apart still makes removes = λ is.
    failed_leaves r name bytes old new failed
    (subst (λ d. Leaves name bytes d new) still (part_removed gone name bytes beside at mid new apart makes removes))

same_or_not : (b : Bool) (x y : List ℕ) → bytes_eq x y ≡ b → (x ≡ y) ⊎ (x ≢ y)
same_or_not true x y is = inl ((bytes_eq-Decides x y).0 is)
same_or_not false x y is = inr (λ e. cc (sym is ∙ (bytes_eq-Decides x y).1 e))

is_or_not : (x y : List ℕ) → (x ≡ y) ⊎ (x ≢ y)
is_or_not x y = same_or_not (bytes_eq x y) x y refl

-- what had a name has it, but for the new file's name, where there is nothing again
others_kept : (name bytes beside : List ℕ) (old mid new : DiskMeaning) → old.now beside ≡ None → Keeps name bytes beside old mid
    → TakesPlace name bytes beside mid new → OthersKept old.now name new.now
others_kept name bytes beside old mid new free before places other q = go (is_or_not other beside)
  where
    go : (other ≡ beside) ⊎ (other ≢ beside) → new.now other ≡ old.now other
    go (inl e) = ap new.now e ∙ places.gone ∙ sym (ap old.now e ∙ free)
    go (inr r) = places.others other r q ∙ before.others other r

passes_on : (name bytes : List ℕ) (old mid new : DiskMeaning) → mid.now name ≡ old.now name → Passes (HasOldOrNew old.now name bytes) old mid
    → Passes (HasOldOrNew mid.now name bytes) mid new → Passes (HasOldOrNew old.now name bytes) old new
passes_on name bytes old mid new stays first second = passes_more (HasOldOrNew old.now name bytes) old mid new first
    (passes_weaker (HasOldOrNew mid.now name bytes) (HasOldOrNew old.now name bytes) mid new (λ names either. either_along names either) second)
  where
    either_along : (names : Names) → HasOldOrNew mid.now name bytes names → HasOldOrNew old.now name bytes names
    either_along names (inl e) = inl (e ∙ stays)
    either_along names (inr has) = inr has

-- it has all the bytes, and took the place, or not
placed : {T E : Type 0} (r : Result T E) (name bytes beside : List ℕ) (old mid new : DiskMeaning) → beside ≢ name → MakesWhole beside bytes old mid
    → Places r name bytes beside mid new → Settles r name bytes old new
placed (Ok x) name bytes beside old mid new apart makes places =
    let before : Keeps name bytes beside old mid = keeps_more name bytes beside old old mid apart (keeps_at_first name bytes beside old) makes.touches in
    record {
      there = places.there;
      permissions = subst (λ z. KeepsPermissions z (new.now name)) before.stays places.permissions;
      others = λ other q. others_kept name bytes beside old mid new makes.free before places other q;
      passes = passes_on name bytes old mid new before.stays before.passes places.passes;
    }
placed (Err e) name bytes beside old mid new apart makes places =
    let before : Keeps name bytes beside old mid = keeps_more name bytes beside old old mid apart (keeps_at_first name bytes beside old) makes.touches in
    leaves name bytes beside old new apart makes.free (record {
      stays = places.stays ∙ before.stays;
      others = λ other q. places.others other q ∙ before.others other q;
      passes = passes_on name bytes old mid new before.stays before.passes places.passes;
    })

pub settles_whole : {T E : Type 0} (r : Result T E) (name bytes beside : List ℕ) (permissions : Option Permissions) (old at mid new : Option DiskMeaning)
    → beside ≢ name → Still old at → StillTold at mid (MakesWhole beside bytes) → StillTold mid new (PlacesBytes r name beside permissions)
    → StillTold old new (SettlesBy r name bytes permissions)
settles_whole r name bytes beside permissions None at mid new apart still makes places = tt
settles_whole r name bytes beside permissions (Some old) None mid new apart still makes places = absurd still
settles_whole r name bytes beside permissions (Some old) (Some at) None new apart still makes places = absurd makes
settles_whole r name bytes beside permissions (Some old) (Some at) (Some mid) None apart still makes places = absurd places
settles_whole r name bytes beside permissions (Some old) (Some at) (Some mid) (Some new) apart still makes places = λ is.
    let same : mid.now name ≡ at.now name = makes.touches.last name (λ e. apart (sym e)) in
    let are : AreOf permissions (mid.now name) =
    subst (λ z. AreOf permissions z) (sym same) (subst (λ (d : DiskMeaning). AreOf permissions (d.now name)) (sym still) is) in
    subst (λ d. Settles r name bytes d new) still (placed r name bytes beside at mid new apart makes (places bytes apart makes.there are))

-- ---- by what was found

by_found : {T E : Type 0} (r : Result T E) (name bytes : List ℕ) (old new : DiskMeaning) → Settles r name bytes old new → WritesFile r name bytes old new
by_found (Ok x) name bytes old new settles = inl settles
by_found (Err e) name bytes old new settles = inl settles

pub writes_new : {T E : Type 0} (r : Result T E) (name bytes : List ℕ) (old new : Option DiskMeaning)
    → IfSome old (λ disk. disk.now name ≡ None) → StillTold old new (SettlesBy r name bytes None) → StillTold old new (WritesFile r name bytes)
writes_new r name bytes None new none settles = tt
writes_new r name bytes (Some old) None none settles = absurd settles
writes_new r name bytes (Some old) (Some new) none settles = by_found r name bytes old new (settles none)

pub writes_plain : {T E : Type 0} (r : Result T E) (name bytes : List ℕ) (permissions : Permissions) (old new : Option DiskMeaning)
    → IfSome old (λ disk. IsPlain (disk.now name) (permissions_mode permissions)) → StillTold old new (SettlesBy r name bytes (Some permissions))
    → StillTold old new (WritesFile r name bytes)
writes_plain r name bytes permissions None new is settles = tt
writes_plain r name bytes permissions (Some old) None is settles = absurd settles
writes_plain r name bytes permissions (Some old) (Some new) is settles = by_found r name bytes old new (settles is)

by_other : {T E : Type 0} (r : Result T E) (name bytes : List ℕ) (old new : DiskMeaning) → IsOther (old.now name) → OrTouches r name (WritesOver name bytes) old new
    → WritesFile r name bytes old new
by_other (Ok x) name bytes old new is does = inr (is, does)
by_other (Err e) name bytes old new is does = inr (is, does)

pub writes_other : {T E : Type 0} (r : Result T E) (name bytes : List ℕ) (old new : Option DiskMeaning)
    → IfSome old (λ disk. IsOther (disk.now name)) → StillTold old new (OrTouches r name (WritesOver name bytes))
    → StillTold old new (WritesFile r name bytes)
writes_other r name bytes None new is does = tt
writes_other r name bytes (Some old) None is does = absurd does
writes_other r name bytes (Some old) (Some new) is does = by_other r name bytes old new is does

-- nothing was found out
pub writes_nothing : {T E : Type 0} (r : Result T E) (name bytes : List ℕ) (old : Option DiskMeaning) → IsErr r → StillTold old old (WritesFile r name bytes)
writes_nothing r name bytes None failed = tt
writes_nothing (Ok x) name bytes (Some old) failed = absurd (cc failed)
writes_nothing (Err e) name bytes (Some old) failed = inl (leaves_all name bytes old)
