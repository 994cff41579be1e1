-- Serves contracts and proofs. The templates by the case of an enum, as the code has them.
use Rattle.std.specs.Prelude.{ℕ, cond, List, eqb}
use Rattle.formats.specs.declared.Format.{Format}
use Rattle.formats.specs.declared.Format.TheVariants as F
use Rattle.formats.specs.declared.Style.{Style}
use Rattle.formats.specs.declared.Style.TheVariants.{Plain, CiscoIpv4, CiscoIpv6, Bird, Juniper, Json}
use Rattle.formats.specs.Template.{Template, template_of}

-- the template of a format, by the bytes of an address
abbrev pub style_of : Format → (width : ℕ) → Style
style_of F.Plain width = Plain
style_of F.Cisco width = cond (eqb width 4) CiscoIpv4 CiscoIpv6
style_of F.Bird width = Bird
style_of F.Juniper width = Juniper
style_of F.Json width = Json

abbrev pub template_at : Style → (name : List ℕ) → Template
template_at Plain name = template_of F.Plain 4 name
template_at CiscoIpv4 name = template_of F.Cisco 4 name
template_at CiscoIpv6 name = template_of F.Cisco 16 name
template_at Bird name = template_of F.Bird 4 name
template_at Juniper name = template_of F.Juniper 4 name
template_at Json name = template_of F.Json 4 name
