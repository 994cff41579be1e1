-- Each template is the one of its style.
use Prim.Native.Nat.{ℕ}
use mathlib.Core.Bool.{Bool, true, false}
use mathlib.Core.Path.{◌≡◌, refl}
use mathlib.Core.List.{List, []}
use lib.Dec.{eqb}
use Rattle.formats.specs.declared.Format.{Format}
use Rattle.formats.specs.declared.Format.TheVariants.{Plain, Cisco, Bird, Juniper, Json}
use Rattle.formats.specs.declared.Style.{Style}
use Rattle.formats.specs.declared.Style.TheVariants as S
use Rattle.formats.specs.Template.{template_of, end_of}
use Rattle.formats.specs.Styles.{style_of, template_at}

pub same_template : (f : Format) (width : ℕ) (name : List ℕ) → template_of f width name ≡ template_at (style_of f width) name
unfolding template_of
same_template Plain width name = refl
same_template Cisco width name = go (eqb width 4) refl
  where
    go : (b : Bool) → eqb width 4 ≡ b → template_of Cisco width name ≡ template_at (style_of Cisco width) name
    go true e = rw e
    go false e = rw e
same_template Bird width name = refl
same_template Juniper width name = refl
same_template Json width name = refl

-- what has no name in it is the same for every name

pub same_slash : (t : Style) (name : List ℕ) → (template_at t []).slash ≡ (template_at t name).slash
unfolding template_of
same_slash S.Plain name = refl
same_slash S.CiscoIpv4 name = refl
same_slash S.CiscoIpv6 name = refl
same_slash S.Bird name = refl
same_slash S.Juniper name = refl
same_slash S.Json name = refl

pub same_end : (t : Style) (name : List ℕ) (left : ℕ) → end_of (template_at t []) left ≡ end_of (template_at t name) left
unfolding end_of template_of
same_end S.Plain name left = refl
same_end S.CiscoIpv4 name left = refl
same_end S.CiscoIpv6 name left = refl
same_end S.Bird name left = refl
same_end S.Juniper name left = refl
same_end S.Json name left = refl

pub same_foot : (t : Style) (name : List ℕ) → (template_at t []).foot ≡ (template_at t name).foot
unfolding template_of
same_foot S.Plain name = refl
same_foot S.CiscoIpv4 name = refl
same_foot S.CiscoIpv6 name = refl
same_foot S.Bird name = refl
same_foot S.Juniper name = refl
same_foot S.Json name = refl
